-- What contracts see of the cells of an `Arena` and of its free list. The word of a cell is seen as a handle, whose
-- `generation` is the cell's. Its `slot` is 16777215 if the cell has a value; otherwise it leads to the next free
-- cell. `words` are the words of an arena's cells, by cell number.
use Rattle.std.specs.Prelude.{ℕ, zero, suc, ◌+◌, ◌%◌, ◌==◌, Bool, cond, List, [], ◌∷◌, map, Some, None, slice_index_or}
use Rattle.crack_arena.specs.declared.cells.Cell.{Cell as Stored}
use Rattle.crack_arena.specs.Arena.{Cell, Handle, no_handle}

-- whether this is the word of a cell that has a value
abbrev pub is_taken_word : Handle → Bool
is_taken_word word = word.slot == 16777215

-- the number of the free cell that follows the free cell with the number `n`. The word of the cell `n` has as `slot`
-- how many numbers lie between the two, counted upwards from `n`, where 0 follows 16777215
abbrev pub next_after : List Handle → ℕ → ℕ
next_after words n = (n + 1 + (slice_index_or words n no_handle).slot) % 16777216

-- the free list from the cell `n` on: `count` cell numbers, each one found from that before it by `next_after`
abbrev pub chain : List Handle → ℕ → ℕ → List ℕ
chain words n zero = []
chain words n (suc count) = n ∷ chain words (next_after words n) count

module _ {T : Type 0} where
  -- what contracts see of a stored cell: its generation, and its value, or none if the cell is free
  abbrev pub cell_of : Stored T → Cell T
  cell_of s = record { generation = s.word.generation; value = cond (is_taken_word s.word) (Some s.value) None }

  -- what contracts see of the stored cells
  abbrev pub cells_of : List (Stored T) → List (Cell T)
  cells_of stored = map cell_of stored

  -- the words of the stored cells
  abbrev pub words_of : List (Stored T) → List Handle
  words_of stored = map (λ (s : Stored T). s.word) stored
