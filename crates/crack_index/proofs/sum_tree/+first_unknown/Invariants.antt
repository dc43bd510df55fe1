use Rattle.std.proofs.Common.{length}
use Rattle.crack_index.specs.SumTrees.{entries_in_tree}
use Rattle.crack_index.proofs.sum_tree.+first_unknown.Given as goal

abbrev pub decreases-first_unknown : goal.decreases-first_unknown
decreases-first_unknown l = length (entries_in_tree l.link.now)
