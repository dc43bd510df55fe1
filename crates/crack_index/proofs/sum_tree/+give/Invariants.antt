use Rattle.std.proofs.Common.{length}
use Rattle.crack_index.specs.SumTrees.{entries_in_tree}
use Rattle.crack_index.proofs.sum_tree.+give.Given as goal

abbrev pub decreases-give : goal.decreases-give
decreases-give l = length (entries_in_tree l.link.now)
