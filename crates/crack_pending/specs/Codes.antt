-- What private clauses alone cite.
-- The 16-bit codes of keys. A spot is an index into a list's vectors, where there is a row or, once removed, a hole.
use Rattle.std.specs.Prelude.{◌≡◌, ℕ, ◌/◌, ◌-◌, ◌^◌, ◌<◌, ◌≤◌, Bool, false, List, length, min, slice_index, slice_index_or}
use Rattle.crack_row.specs.Ranges.{Range}
use Rattle.crack_arena.specs.Rows.{unknown}
use Rattle.crack_arena.specs.Memories.{Memory, nothing}
use Rattle.crack_pending.specs.Keeps.{HasRow}

-- the codes of the first spots, and how keys are coded: `base` is subtracted, and the low `shift` bits are dropped
pub record Coding : Type 0 where
  pub codes : List ℕ
  pub base : ℕ
  pub shift : ℕ

-- the code of a key: `key` minus `base`, 0 if that is negative, divided by 2^`shift` and rounded down; at most 65534
abbrev pub key_code : ℕ → ℕ → ℕ → ℕ
key_code base shift key = min ((key - base) / 2 ^ shift) 65534

-- the codes are those of the first spots. The code of a spot with a row is that of the key in `remembered` there, and
-- the code of a hole is 65535. `stands` says which spots have a row
pub record AreCoded (remembered : List Memory) (stands : List Bool) (coding : Coding) : Type 0 where
  pub few : length coding.codes ≤ length remembered
  pub right : (spot : ℕ) → spot < length coding.codes → HasRow stands spot → slice_index coding.codes spot ≡ key_code coding.base coding.shift ((slice_index_or remembered spot nothing).key)
  pub holes : (spot : ℕ) → spot < length coding.codes → slice_index_or stands spot false ≡ false → slice_index coding.codes spot ≡ 65535

-- `first` and `last` are the codes, by this base and shift, of the least and the greatest key of the range. The range
-- isn't empty. `beyond` is the code of `unknown`, which stands for a key that isn't remembered
pub record IsWindow (base shift : ℕ) (range : Range) (first last beyond : ℕ) : Type 0 where
  pub first_is : first ≡ key_code base shift range.low
  pub last_is : last ≡ key_code base shift (range.high - 1)
  pub beyond_is : beyond ≡ key_code base shift unknown
  pub some : range.low < range.high
  pub fits : range.high - 1 ≤ unknown
