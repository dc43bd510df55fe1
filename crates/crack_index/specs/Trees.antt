-- What contracts see of a tree of marks.
use Rattle.std.specs.Prelude.{ℕ, List, [], Option, Some, None}
use Rattle.std.specs.declared.alloc.Global.{Global}
use Rattle.std.proofs.Common.{Box}
use Rattle.crack_index.specs.declared.mark.Mark.{Mark}

-- what contracts see of a tree: its marks in order, and its height
pub record Grown : Type 0 where
  pub marks : List Mark
  pub height : ℕ

-- the marks of a tree, none if it is empty
abbrev pub marks_in_tree : Option (Box Grown Global) → List Mark
marks_in_tree None = []
marks_in_tree (Some n) = n.value.marks
