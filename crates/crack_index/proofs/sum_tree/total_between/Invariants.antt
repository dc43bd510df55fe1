use Rattle.std.proofs.Common.{◌≡◌}
use Rattle.crack_index.specs.Cuts.{StartsRise, span}
use Rattle.crack_index.specs.SumTrees.{entries_in_tree}
use Rattle.crack_index.specs.SumKeeps.{inside}
use Rattle.crack_index.proofs.sum_tree.total_between.Given as goal

abbrev pub invariant-down : goal.invariant-down
invariant-down l = StartsRise (entries_in_tree l.here) × (inside (span l.first l.last) (entries_in_tree l.here) ≡ inside (span l.first l.last) (entries_in_tree l.link))
