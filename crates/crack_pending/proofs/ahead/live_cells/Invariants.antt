use Rattle.std.proofs.Common.{◌≤◌}
use Rattle.crack_pending.proofs.ahead.live_cells.Given as goal

abbrev pub invariant-candidates : goal.invariant-candidates
invariant-candidates l = l.live ≤ l.place
