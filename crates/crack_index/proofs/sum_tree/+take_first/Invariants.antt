use Rattle.std.proofs.Common.{length}
use Rattle.crack_index.proofs.sum_tree.+take_first.Given as goal

abbrev pub decreases-take_first : goal.decreases-take_first
decreases-take_first l = length l.node.value.entries
