use Rattle.std.proofs.Common.{◌≡◌}
use Rattle.crack_index.specs.Marks.{next_mark}
use Rattle.crack_index.specs.Trees.{marks_in_tree}
use Rattle.crack_index.proofs.Sides.{or_else}
use Rattle.crack_index.proofs.tree.next_above.Given as goal

abbrev pub invariant-down : goal.invariant-down
invariant-down l = or_else (next_mark l.number (marks_in_tree l.here)) l.found ≡ next_mark l.number (marks_in_tree l.link)
