use Rattle.crack_index.specs.Cuts.{StartsRise, span}
use Rattle.crack_index.specs.SumTrees.{entries_in_tree}
use Rattle.crack_index.specs.SumKeeps.{inside}
use Rattle.crack_index.proofs.SumTotals.{IsBefore}
use Rattle.crack_index.proofs.sum_tree.total_to.Given as goal

abbrev pub invariant-down : goal.invariant-down
invariant-down l = StartsRise (entries_in_tree l.here) × IsBefore (inside (span 0 l.last) (entries_in_tree l.link)) (inside (span 0 l.last) (entries_in_tree l.here)) l.sum
