-- What private clauses alone cite.
-- The height after two subtrees are joined.
use Rattle.std.specs.Prelude.{◌≡◌, ℕ, ◌+◌, ◌≤◌, max}
use Rattle.crack_index.specs.Keeps.{DifferByAtMost}

-- `height` may be that of a tree joined from subtrees of the heights `l` and `r`: it is the greater of `l` and `r`, or
-- one more, and it is one more if `l` and `r` differ by at most one
pub record IsHeightOver (l r height : ℕ) : Type 0 where
  pub lower : max l r ≤ height
  pub upper : height ≤ max l r + 1
  pub even : DifferByAtMost 1 l r → height ≡ max l r + 1
