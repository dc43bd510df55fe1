use Rattle.std.proofs.Common.{◌≡◌}
use Rattle.crack_index.specs.Marks.{last_mark, next_mark}
use Rattle.crack_index.specs.Trees.{marks_in_tree}
use Rattle.crack_index.proofs.Sides.{or_else}
use Rattle.crack_index.proofs.tree.neighbours.Given as goal

abbrev pub invariant-down : goal.invariant-down
invariant-down l = record {
  below : or_else (last_mark l.number (marks_in_tree l.here)) l.below ≡ last_mark l.number (marks_in_tree l.link);
  above : or_else (next_mark l.number (marks_in_tree l.here)) l.above ≡ next_mark l.number (marks_in_tree l.link);
}
