use Rattle.std.proofs.Common.{◌≡◌}
use Rattle.crack_pending.specs.Keeps.{place_at}
use Rattle.crack_pending.proofs.rows.rows_in_block.Given as goal

abbrev pub invariant-spots : goal.invariant-spots
invariant-spots l = l.rows ≡ place_at l.stands l.spot
