use Rattle.crack_state.specs.Steps.{ceiling_of}
use Rattle.crack_merge.proofs.Ending.{IsOnWay, left_in}
use Rattle.crack_merge.proofs.carries.carry_range.Given as goal

abbrev pub invariant-insertions : goal.invariant-insertions
invariant-insertions l = IsOnWay (ceiling_of l.fn.ceiling) l.fn.range l.fn.store l.from l.carrying

abbrev pub decreases-insertions : goal.decreases-insertions
decreases-insertions l = left_in l.fn.range l.carrying.store
