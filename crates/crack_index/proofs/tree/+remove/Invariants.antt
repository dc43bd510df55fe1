use Rattle.std.proofs.Common.{length}
use Rattle.crack_index.specs.Trees.{marks_in_tree}
use Rattle.crack_index.proofs.tree.+remove.Given as goal

abbrev pub decreases-remove : goal.decreases-remove
decreases-remove l = length (marks_in_tree l.link)
