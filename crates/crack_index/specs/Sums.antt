-- The sums of pieces. A piece is an entry: the key where it begins, and its sum. It ends where the next entry begins,
-- and the last one at `GREATEST_BOUND`, which is above all keys. A sum that isn't known is `UNKNOWN`, which is -2^127.
use Rattle.std.specs.Prelude.{◌≡◌, ⊤, ◌⊎◌, ℕ, ℤ, pos, ◌+◌, ◌+ℤ◌, unsigned_abs, ◌^◌, ◌<◌, ◌≤◌, ◌&&◌, ◌||◌, ◌==◌, not, int_le, int_lt, Bool, cond, List, [], ◌∷◌}
use Rattle.std.specs.Ordering.{int_eq}
use Rattle.crack_row.specs.Ranges.{Range, is_in}
use Rattle.crack_row.specs.declared.TheConstants.{GREATEST_BOUND}
use Rattle.crack_index.specs.declared.sums.TheConstants.{UNKNOWN}

-- the start of the first piece, or `GREATEST_BOUND` if there is none
abbrev pub lowest_start : List (ℕ × ℤ) → ℕ
lowest_start [] = GREATEST_BOUND
lowest_start (e ∷ es) = e.0

-- the sum is known: it isn't `UNKNOWN`
abbrev pub IsKnown : ℤ → Type 0
IsKnown sum = sum ≡ UNKNOWN → ⊥

-- each known sum is the measure of its piece. A measure gives a number to each range of keys: `m low high` to those
-- from `low` up to but not including `high`
abbrev pub AreRight : (ℕ → ℕ → ℤ) → List (ℕ × ℤ) → Type 0
AreRight m [] = ⊤
AreRight m (e ∷ es) = (IsKnown e.1 → e.1 ≡ m e.0 (lowest_start es)) × AreRight m es

-- if a range is cut in two, its measure is the sum of the parts' measures; the measure of an empty range is 0
pub record IsAdditive (m : ℕ → ℕ → ℤ) : Type 0 where
  pub parts : (low mid high : ℕ) → low ≤ mid → mid ≤ high → m low high ≡ m low mid +ℤ m mid high
  pub none : (bound : ℕ) → m bound bound ≡ pos 0

-- the measure `m'` is the measure `m` after a change by `amount` at `key`: it is higher by `amount` for each range
-- that contains the key, and the same for every other range
abbrev pub Changes : ℕ → ℤ → (ℕ → ℕ → ℤ) → (ℕ → ℕ → ℤ) → Type 0
Changes key amount m m' = (low high : ℕ) → m' low high ≡ cond (is_in (record { low = low; high = high }) key) (m low high +ℤ amount) (m low high)

-- whether the number fits into a signed number of 128 bits: it is from -2^127 to 2^127 - 1
abbrev pub fits : ℤ → Bool
fits sum = int_le UNKNOWN sum && int_lt sum (pos (2 ^ 127))

-- `sum` plus `change`; `UNKNOWN` if `sum` is unknown or the result doesn't fit into 128 bits
abbrev pub later : ℤ → ℤ → ℤ
later change sum = cond (int_eq sum UNKNOWN || not (fits (sum +ℤ change))) UNKNOWN (sum +ℤ change)

-- the sums of two pieces added up; `UNKNOWN` if either of them is unknown or the result doesn't fit into 128 bits
abbrev pub both : ℤ → ℤ → ℤ
both lower upper = cond (int_eq upper UNKNOWN) UNKNOWN (later upper lower)

-- the pieces, where `later` adds `change` to the sum of the one that contains the key; unchanged if none does
abbrev pub adjusted : ℕ → ℤ → List (ℕ × ℤ) → List (ℕ × ℤ)
adjusted key change [] = []
adjusted key change (e ∷ es) = cond (is_in (record { low = e.0; high = lowest_start es }) key) ((e.0, later change e.1) ∷ es) (e ∷ adjusted key change es)

-- the pieces, where the one that begins at the key is joined to the one below (`both`); unchanged if one is missing
abbrev pub joined_below : ℕ → List (ℕ × ℤ) → List (ℕ × ℤ)
joined_below key [] = []
joined_below key (e ∷ []) = e ∷ []
joined_below key (e ∷ f ∷ fs) = cond (key == f.0) ((e.0, both e.1 f.1) ∷ fs) (e ∷ joined_below key (f ∷ fs))

-- what a source of sums, such as a store, reports is right by the measure `m`: if it reports `sum` for the keys from
-- `low` up to but not including `high` (`says low high sum`), and there are such keys, `sum` is `m low high`
abbrev pub AreTrue : (ℕ → ℕ → ℤ → Type 0) → (ℕ → ℕ → ℤ) → Type 0
AreTrue says m = (low high : ℕ) (sum : ℤ) → low < high → says low high sum → sum ≡ m low high

-- the number `bound` is an end of a piece: a piece begins there, or it is `GREATEST_BOUND`
abbrev pub IsEnd : ℕ → List (ℕ × ℤ) → Type 0
IsEnd bound [] = bound ≡ GREATEST_BOUND
IsEnd bound (e ∷ es) = (bound ≡ e.0) ⊎ IsEnd bound es

-- the sums of all pieces that begin in the range are known
abbrev pub SumsAreKnown : Range → List (ℕ × ℤ) → Type 0
SumsAreKnown range [] = ⊤
SumsAreKnown range (e ∷ es) = (range.low ≤ e.0 → e.0 < range.high → IsKnown e.1) × SumsAreKnown range es

-- the total of the pieces that begin in the range
abbrev pub total_in : Range → List (ℕ × ℤ) → ℤ
total_in range [] = pos 0
total_in range (e ∷ es) = cond (is_in range e.0) (e.1 +ℤ total_in range es) (total_in range es)

-- the sum of the absolute values of the sums of the pieces that begin in the range
abbrev pub distance_in : Range → List (ℕ × ℤ) → ℕ
distance_in range [] = 0
distance_in range (e ∷ es) = cond (is_in range e.0) (unsigned_abs e.1 + distance_in range es) (distance_in range es)

-- each end of an old piece is an end of a new one (`IsEnd`). If the old sums are right by a measure (`AreRight`), so
-- are the new ones; this holds for each additive measure by which what a source `says` is right (`AreTrue`)
pub record Extends (says : ℕ → ℕ → ℤ → Type 0) (old new : List (ℕ × ℤ)) : Type 0 where
  pub right : (m : ℕ → ℕ → ℤ) → IsAdditive m → AreTrue says m → AreRight m old → AreRight m new
  pub ends : (bound : ℕ) → IsEnd bound old → IsEnd bound new
