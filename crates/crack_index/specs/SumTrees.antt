-- What contracts see of a tree of pieces with their sums.
use Rattle.std.specs.Prelude.{ℕ, ℤ, List, [], Option, Some, None}
use Rattle.std.specs.declared.alloc.Global.{Global}
use Rattle.std.proofs.Common.{Box}

-- what contracts see of a tree: its pieces in order, each as its start and its sum, and its height
pub record Summed : Type 0 where
  pub entries : List (ℕ × ℤ)
  pub height : ℕ

-- the pieces of a tree, none if it is empty
abbrev pub entries_in_tree : Option (Box Summed Global) → List (ℕ × ℤ)
entries_in_tree None = []
entries_in_tree (Some n) = n.value.entries
