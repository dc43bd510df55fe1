-- What private clauses alone cite.
-- The invariants of an arena's words and pages. Links.antt says what the word of a cell is.
use Rattle.std.specs.Prelude.{◌≡◌, ℕ, ◌≤◌, List, [], ◌∷◌, length, slice_index_or, sum_by, cond, nat_lt, not, Bool, count_by, ◌-◌, min}
use Rattle.crack_arena.specs.declared.TheConstants.{MOST_CELLS}
use Rattle.crack_arena.specs.Arena.{Handle, no_handle, times}
use Rattle.crack_arena.specs.Links.{is_taken_word, chain}

-- whether this is the word of a free cell
abbrev pub is_vacant : Handle → Bool
is_vacant word = not (is_taken_word word)

-- 1 for the word of a free cell, otherwise 0
abbrev pub vacancy : Handle → ℕ
vacancy word = cond (is_vacant word) 1 0

-- 1 if there is a cell with the number `n` and it is free, otherwise 0; `words` are the words of all cells
abbrev pub vacant_at : List Handle → ℕ → ℕ
vacant_at words n = cond (nat_lt n (length words)) (vacancy (slice_index_or words n no_handle)) 0

-- `words` are the words of an arena's cells. The free list from the cell `head` on, `free` cells long, has each free
-- cell once, and no others. `freed` is the sum of the cells' generations, and there are at most `MOST_CELLS` cells
pub record IsLinked (words : List Handle) (head free freed : ℕ) : Type 0 where
  pub once : (n : ℕ) → times n (chain words head free) ≡ vacant_at words n
  pub counted : free ≡ count_by is_vacant words
  pub total : freed ≡ sum_by (λ word. word.generation) words
  pub small : length words ≤ MOST_CELLS

module _ {C : Type 0} where
  -- the pages have this many cells in total: 256 in each before the last one with cells, and none in each after it
  abbrev pub IsPaged : List (List C) → ℕ → Type 0
  IsPaged [] len = len ≡ 0
  IsPaged (page ∷ pages) len = (length page ≡ min 256 len) × IsPaged pages (len - 256)
