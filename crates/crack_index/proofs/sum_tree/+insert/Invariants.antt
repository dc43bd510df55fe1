use Rattle.std.proofs.Common.{length}
use Rattle.crack_index.specs.SumTrees.{entries_in_tree}
use Rattle.crack_index.proofs.sum_tree.+insert.Given as goal

abbrev pub decreases-insert : goal.decreases-insert
decreases-insert l = length (entries_in_tree l.link)
