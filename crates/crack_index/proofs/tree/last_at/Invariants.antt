use Rattle.std.proofs.Common.{◌≡◌}
use Rattle.crack_index.specs.Marks.{last_mark}
use Rattle.crack_index.specs.Trees.{marks_in_tree}
use Rattle.crack_index.proofs.Sides.{or_else}
use Rattle.crack_index.proofs.tree.last_at.Given as goal

abbrev pub invariant-down : goal.invariant-down
invariant-down l = or_else (last_mark l.number (marks_in_tree l.here)) l.found ≡ last_mark l.number (marks_in_tree l.link)
