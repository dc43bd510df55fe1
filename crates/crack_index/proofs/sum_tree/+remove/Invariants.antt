use Rattle.std.proofs.Common.{length}
use Rattle.crack_index.specs.SumTrees.{entries_in_tree}
use Rattle.crack_index.proofs.sum_tree.+remove.Given as goal

abbrev pub decreases-remove : goal.decreases-remove
decreases-remove l = length (entries_in_tree l.link)
