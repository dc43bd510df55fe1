-- What private clauses alone cite.
-- The invariants of a tree and of an index: marks in rising order, and subtrees of almost equal height.
use Rattle.std.specs.Prelude.{◌≡◌, ℕ, ◌+◌, ◌-◌, ◌^◌, ◌<◌, ◌≤◌, max, length, List, ◌∷◌, ◌++◌, Option, Some, None}
use Rattle.std.specs.declared.alloc.Global.{Global}
use Rattle.std.proofs.Common.{Box}
use Rattle.crack_index.specs.declared.mark.Mark.{Mark}
use Rattle.crack_index.specs.Marks.{Rising}
use Rattle.crack_index.specs.Heights.{least, most}
use Rattle.crack_index.specs.Trees.{Grown, marks_in_tree}

-- the height of a tree of marks, 0 if it is empty
abbrev pub height_of : Option (Box Grown Global) → ℕ
height_of None = 0
height_of (Some n) = n.value.height

-- a balanced tree of this height may have this many marks: `least` of the height or more, but fewer than `most` of it
pub record IsTall (marks height : ℕ) : Type 0 where
  pub least : least height ≤ marks
  pub most : marks < most height

-- the heights `l` and `r` differ by at most `by`
pub record DifferByAtMost (by l r : ℕ) : Type 0 where
  pub left : l ≤ r + by
  pub right : r ≤ l + by

-- a node's invariant: the marks of `left`, `mark` and the marks of `right` rise in this order; `left` and `right`
-- differ in height by at most one; `height` is one more than the greater height, and fits the marks' number (`IsTall`)
pub record IsBalanced (left : Option (Box Grown Global)) (mark : Mark) (right : Option (Box Grown Global)) (height : ℕ) : Type 0 where
  pub rising : Rising (marks_in_tree left ++ mark ∷ marks_in_tree right)
  pub high : height ≡ max (height_of left) (height_of right) + 1
  pub even : DifferByAtMost 1 (height_of left) (height_of right)
  pub tall : IsTall (length (marks_in_tree left ++ mark ∷ marks_in_tree right)) height

-- the invariant of an index: its marks rise (`Rising`); `len` is their number; and `len` plus `spare`, the number of
-- nodes kept for further marks, is below 2^64 - 1
pub record IsSoundIndex (marks : List Mark) (spare len : ℕ) : Type 0 where
  pub rising : Rising marks
  pub counted : length marks ≡ len
  pub few : len + spare < 2 ^ 64 - 1
