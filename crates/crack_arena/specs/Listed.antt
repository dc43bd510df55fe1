-- What a contract sees of a list of cells.
use Rattle.std.specs.Prelude.{ℕ, List}

-- a list of cells by number, and how many cells can be appended without memory
pub record Listed (C : Type 0) : Type 0 where
  pub items : List C
  pub room : ℕ
