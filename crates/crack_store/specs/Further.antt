-- The further bound at which a store is cracked beside an end of a range that says little about its piece
-- (`SaysLittle`): the piece of the column into which the end falls.
use Rattle.std.specs.Prelude.{◌≡◌, ◌⊎◌, ℕ, ◌+◌, ◌-◌, ◌*◌, ◌/◌, ◌<◌, ◌≤◌, nat_lt, min, max, List, [], ◌∷◌, length, count_by, Option, Some, None, slice_index_or}
use Rattle.std.specs.List.Sorted.{IsPermutation, IsNonDecreasingBy}
use Rattle.crack_row.specs.Ranges.{Range}
use Rattle.crack_row.specs.declared.InnerBound.{InnerBound}
use Rattle.crack_arena.specs.Arena.{no_handle}
use Rattle.crack_arena.specs.Rows.{key_at}
use Rattle.crack_index.specs.declared.index.Piece.{Piece}
use Rattle.crack_index.specs.Marks.{HasBound, piece_at}
use Rattle.crack_state.specs.State.{State}
use Rattle.crack_state.specs.Merge.{Refines}
use Rattle.crack_store.specs.declared.further.TheConstants.{MOST_ROWS}

-- the bound is strictly between the ends of the partition's keys, and isn't in the index
pub record IsMissing (s : State) (bound : ℕ) : Type 0 where
  pub low : s.keys.low < bound
  pub high : bound < s.keys.high
  pub apart : HasBound s.marks bound → ⊥

-- the number of the bound, or the given end of the partition's keys if there is no bound
abbrev pub bound_or_end : ℕ → Option InnerBound → ℕ
bound_or_end end None = end
bound_or_end end (Some bound) = bound.0

-- the piece of the store's column to which the key with this bound's number belongs
abbrev pub own_piece : State → ℕ → Piece
own_piece s bound = piece_at bound (length s.column) s.marks

-- the key of the row at the `n`-th (counted from 0) of nine places spread evenly over a piece
abbrev pub sampled : State → Piece → ℕ → ℕ
sampled s piece n = key_at s.cells (slice_index_or s.column (piece.from + (2 * n + 1) * (piece.to - piece.from) / 18) no_handle)

-- the keys at the nine places of a piece
abbrev pub samples : State → Piece → List ℕ
samples s piece = sampled s piece 0 ∷ sampled s piece 1 ∷ sampled s piece 2 ∷ sampled s piece 3 ∷ sampled s piece 4 ∷ sampled s piece 5 ∷ sampled s piece 6 ∷ sampled s piece 7 ∷ sampled s piece 8 ∷ []

-- how many of the keys are below the bound
abbrev pub count_below : ℕ → List ℕ → ℕ
count_below bound keys = count_by (λ key. nat_lt key bound) keys

-- of nine keys at least three are below the bound, and at least three aren't
abbrev pub DividesWell : ℕ → List ℕ → Type 0
DividesWell bound keys = (3 ≤ count_below bound keys) × (count_below bound keys ≤ 6)

-- `middle` is the median of these numbers, which are nine
pub record IsMiddle (numbers : List ℕ) (middle : ℕ) : Type 0 where
  pub rising : List ℕ
  pub order : IsNonDecreasingBy (λ (n : ℕ). n) rising
  pub same : IsPermutation numbers rising
  pub is : middle ≡ slice_index_or rising 4 0

-- the index has bounds, this bound is missing from it (`IsMissing`), and its piece has more than `MOST_ROWS` rows
pub record FallsIntoLarge (s : State) (bound : ℕ) : Type 0 where
  pub cracked : 0 < length s.marks
  pub missing : IsMissing s bound
  pub large : MOST_ROWS < (own_piece s bound).to - (own_piece s bound).from

-- at least one of the range's ends divides the nine keys well (`DividesWell`)
abbrev pub EndsDivideWell : Range → List ℕ → Type 0
EndsDivideWell r keys = DividesWell r.low keys ⊎ DividesWell r.high keys

-- an end of the range says little about its piece: it falls into a large piece (`FallsIntoLarge`), and neither end of
-- the range divides that piece's sampled keys well
abbrev pub SaysLittle : State → Range → ℕ → Type 0
SaysLittle s r end = FallsIntoLarge s end × (EndsDivideWell r (samples s (own_piece s end)) → ⊥)

-- `further` is the further bound beside `end`: the median of the keys sampled in the piece of `end`, but at least one
-- above that piece's low end; it lies strictly between the piece's ends
pub record IsFurther (s : State) (end further : ℕ) : Type 0 where
  pub middle : ℕ
  pub is_middle : IsMiddle (samples s (own_piece s end)) middle
  pub is : further ≡ max middle (bound_or_end s.keys.low (own_piece s end).low + 1)
  pub low : bound_or_end s.keys.low (own_piece s end).low < further
  pub high : further < bound_or_end s.keys.high (own_piece s end).high

-- from the first store to the second the column is cracked at this end of the range and at the further bound beside it
-- (`IsFurther`), if the end says little about its piece (`SaysLittle`) in the first; otherwise nothing changes
abbrev pub CracksBeside : State → State → Range → ℕ → Type 0
CracksBeside s t r end = (SaysLittle s r end × ((further : ℕ) × IsFurther s end further × Refines s t (record { low = min end further; high = max end further }))) ⊎ ((SaysLittle s r end → ⊥) × (t ≡ s))

-- from `s` to `t` the store is cracked beside the low end of `r`, beside the high end (`CracksBeside`), then at both
pub record CracksFurther (s t : State) (r : Range) : Type 0 where
  pub beside_low : State
  pub beside_both : State
  pub low : CracksBeside s beside_low r r.low
  pub high : CracksBeside beside_low beside_both r r.high
  pub refines : Refines beside_both t r
