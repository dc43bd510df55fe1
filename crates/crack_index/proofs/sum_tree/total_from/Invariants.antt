use Rattle.crack_row.specs.declared.TheConstants.{GREATEST_BOUND}
use Rattle.crack_index.specs.Cuts.{StartsRise}
use Rattle.crack_index.specs.SumTrees.{entries_in_tree}
use Rattle.crack_index.specs.SumKeeps.{inside}
use Rattle.crack_index.proofs.SumTotals.{IsBehind}
use Rattle.crack_index.proofs.sum_tree.total_from.Given as goal

abbrev pub invariant-down : goal.invariant-down
invariant-down l = StartsRise (entries_in_tree l.here) × IsBehind (inside (record { low = l.first; high = GREATEST_BOUND }) (entries_in_tree l.link)) (inside (record { low = l.first; high = GREATEST_BOUND }) (entries_in_tree l.here)) l.sum
