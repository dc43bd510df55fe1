use Rattle.crack_merge.proofs.CarryLaws.{IsNext}
use Rattle.crack_merge.proofs.complete.merge_insertions.Given as goal

abbrev pub invariant-insertions : goal.invariant-insertions
invariant-insertions l = IsNext l.fn.store l.taken l.carrying
