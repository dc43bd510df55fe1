use Rattle.std.proofs.Common.{◌≡◌}
use Rattle.crack_index.specs.Cuts.{StartsRise, sum_piece_at}
use Rattle.crack_index.specs.SumTrees.{entries_in_tree}
use Rattle.crack_index.proofs.SumSides.{or_else}
use Rattle.crack_index.proofs.sum_tree.last_at.Given as goal

abbrev pub invariant-down : goal.invariant-down
invariant-down l = StartsRise (entries_in_tree l.here) × (or_else (sum_piece_at l.key (entries_in_tree l.here)) l.found ≡ sum_piece_at l.key (entries_in_tree l.link))
