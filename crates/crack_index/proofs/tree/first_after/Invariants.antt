use Rattle.std.proofs.Common.{◌≡◌}
use Rattle.crack_index.specs.Marks.{first_after}
use Rattle.crack_index.specs.Trees.{marks_in_tree}
use Rattle.crack_index.proofs.Sides.{or_else}
use Rattle.crack_index.proofs.tree.first_after.Given as goal

abbrev pub invariant-down : goal.invariant-down
invariant-down l = or_else (first_after l.place (marks_in_tree l.here)) l.found ≡ first_after l.place (marks_in_tree l.link)
