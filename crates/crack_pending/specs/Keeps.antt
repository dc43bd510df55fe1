-- What private clauses alone cite.
-- The invariants of a pending list's spots, and of a set's bits. `handles`, `remembered` and `stands` have an entry
-- for each spot; `stands` says which have a row, the others are holes. `spots` notes spots by cell number (`slot`).
use Rattle.std.specs.Prelude.{◌≡◌, ℕ, ◌/◌, ◌%◌, ◌*◌, ◌<◌, ◌≤◌, ◌↔◌, List, length, slice_index, zero, suc, ◌+◌, ◌^◌, Bool, true, false, cond, [], ◌∷◌, slice_index_or, map}
use Rattle.std.specs.Int.{bit_at}
use Rattle.crack_arena.specs.Arena.{Handle, times, slots, no_handle}
use Rattle.crack_arena.specs.Memories.{Memory}
use Rattle.crack_pending.specs.Spots.{kept}

-- the bit of the number is set in these words of 64 bits
unfoldable pub Has : List ℕ → ℕ → Type 0
Has words number = bit_at (slice_index words (number / 64)) (number % 64) ≡ 1

-- `words` have a bit for each of the first `covered` cells, and exactly the cells that `handles` name have theirs set
pub record AreMembers (words : List ℕ) (handles : List Handle) (covered : ℕ) : Type 0 where
  pub within : covered ≤ 64 * length words
  pub right : (slot : ℕ) → Has words slot ↔ (0 < times slot (slots handles))

-- the number of rows at the first `n` spots, where the list says which spots have a row; there is none after its end
abbrev pub place_at : List Bool → ℕ → ℕ
place_at bs zero = 0
place_at [] (suc n) = 0
place_at (b ∷ bs) (suc n) = cond b 1 0 + place_at bs n

-- the remembered keys, in order; `unknown` for a row whose key isn't remembered
abbrev pub keys_of : List Memory → List ℕ
keys_of remembered = map (λ (m : Memory). m.key) remembered

-- the spot has a row, as the list `stands` says; a spot after the list's end has none
abbrev pub HasRow : List Bool → ℕ → Type 0
HasRow stands spot = slice_index_or stands spot false ≡ true

-- `spots` notes the spot `spot` for the cell with the number `slot`
pub record LeadsTo (spots : List ℕ) (slot spot : ℕ) : Type 0 where
  pub covered : slot < length spots
  pub is : slice_index_or spots slot 0 ≡ spot

-- for each row at the first `noted` spots, `spots` notes the row's spot for the cell that its handle names
abbrev pub LeadBack : List Handle → List Bool → List ℕ → ℕ → Type 0
LeadBack handles stands spots noted = (spot : ℕ) → spot < noted → HasRow stands spot → LeadsTo spots (slice_index_or handles spot no_handle).slot spot

-- no two rows have handles that name the same cell
abbrev pub StandApart : List Handle → List Bool → Type 0
StandApart handles stands =
    (j k : ℕ) → HasRow stands j → HasRow stands k → (slice_index_or handles j no_handle).slot ≡ (slice_index_or handles k no_handle).slot → j ≡ k

-- the handle of each row names one of the first `cells` cells
abbrev pub AreCovered : List Handle → List Bool → ℕ → Type 0
AreCovered handles stands cells = (spot : ℕ) → HasRow stands spot → (slice_index_or handles spot no_handle).slot < cells

-- the invariants of a list. `handles`, `remembered` and `stands` have equal lengths of at most 2^32, and `rows` is the
-- number of rows. The rows' cells are distinct, and have numbers below the length of `spots`, which notes the spots of
-- the rows at the first `noted` spots. `hint_place` is the number of rows before the spot `hint_spot`
pub record IsSoundList (handles : List Handle) (remembered : List Memory) (stands : List Bool) (spots : List ℕ) (rows noted hint_place hint_spot : ℕ) : Type 0 where
  pub remembered_beside : length remembered ≡ length handles
  pub stands_beside : length stands ≡ length handles
  pub counted : rows ≡ place_at stands (length stands)
  pub few : length handles ≤ 2 ^ 32
  pub covered : AreCovered handles stands (length spots)
  pub apart : StandApart handles stands
  pub noted_near : noted ≤ length handles
  pub led : LeadBack handles stands spots noted
  pub near : hint_spot ≤ length handles
  pub hinted : hint_place ≡ place_at stands hint_spot

-- `handles'`, `remembered'` and `stands'` are the lists after all holes were closed up: the handles of the rows, and
-- what is remembered of them, have the same order, and there are `rows` spots, each with a row
pub record IsClosed (handles : List Handle) (remembered : List Memory) (stands : List Bool) (rows : ℕ) (handles' : List Handle) (remembered' : List Memory) (stands' : List Bool) : Type 0 where
  pub handles_are : handles' ≡ kept stands handles
  pub remembered_are : remembered' ≡ kept stands remembered
  pub long : length stands' ≡ rows
  pub full : place_at stands' rows ≡ rows
