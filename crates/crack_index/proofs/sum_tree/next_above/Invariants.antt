use Rattle.std.proofs.Common.{◌≡◌}
use Rattle.crack_index.specs.Cuts.{StartsRise, next_at}
use Rattle.crack_index.specs.SumTrees.{entries_in_tree}
use Rattle.crack_index.proofs.SumSides.{next_or}
use Rattle.crack_index.proofs.sum_tree.next_above.Given as goal

abbrev pub invariant-down : goal.invariant-down
invariant-down l = StartsRise (entries_in_tree l.here) × (next_or l.found l.key (entries_in_tree l.here) ≡ next_at l.key (entries_in_tree l.link))
