use Rattle.std.proofs.Common.{length}
use Rattle.crack_index.specs.Trees.{marks_in_tree}
use Rattle.crack_index.proofs.tree.+insert.Given as goal

abbrev pub decreases-insert : goal.decreases-insert
decreases-insert l = length (marks_in_tree l.link)
