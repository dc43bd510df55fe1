use Rattle.std.proofs.Common.{length}
use Rattle.crack_merge.proofs.Pulling.{IsPulling}
use Rattle.crack_merge.proofs.pulls.pull_each.Given as goal

abbrev pub invariant-deletions : goal.invariant-deletions
invariant-deletions l = IsPulling l.fn.range l.fn.fillers l.fn.store l.from l.seen l.carrying

abbrev pub decreases-deletions : goal.decreases-deletions
decreases-deletions l = length l.carrying.store.pending_out
