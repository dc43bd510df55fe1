-- What private clauses alone cite.
-- Candidates that a pass over codes found ahead of time: spots whose codes are from the first to the last one searched
-- for. A spot is an index into a list's vectors, and `codes` has the 16-bit code of the key at each spot (Codes.antt).
use Rattle.std.specs.Prelude.{◌≡◌, ℕ, ◌<◌, ◌≤◌, List, length, slice_index}
use Rattle.crack_pending.specs.declared.ahead.Ahead.{Ahead}
use Rattle.crack_pending.specs.Inside.{Lies}

-- the spot is in the list of candidates, at the position `next` or after it
pub record IsAmong (candidates : List ℕ) (next spot : ℕ) : Type 0 where
  pub place : ℕ
  pub from : next ≤ place
  pub within : place < length candidates
  pub is : slice_index candidates place ≡ spot

-- `candidates` are spots that rise. At the position `next` and after it, all are from `from` up to but not including
-- `to`, and each spot there whose code is from `first` to `last` is among them; others may be, such as those of rows
-- removed since. `last` is below 65535, the code of a spot without a row
pub record AreCandidates (codes : List ℕ) (first last from to : ℕ) (candidates : List ℕ) (next : ℕ) : Type 0 where
  pub order : first ≤ last
  pub low : last < 65535
  pub span : from ≤ to
  pub within : to ≤ length codes
  pub found : (spot : ℕ) → from ≤ spot → spot < to → Lies first last (slice_index codes spot) → IsAmong candidates next spot
  pub inside : (k : ℕ) → next ≤ k → k < length candidates → (from ≤ slice_index candidates k) × (slice_index candidates k < to)
  pub rising : (j k : ℕ) → j < k → k < length candidates → slice_index candidates j < slice_index candidates k

-- `AreCandidates` holds for these codes and the fields of `ahead`, which have the names used there
abbrev pub IsAhead : List ℕ → Ahead → Type 0
IsAhead codes ahead = AreCandidates codes ahead.first ahead.last ahead.from ahead.to ahead.candidates.items ahead.next

-- no spot from `start` up to but not including `near` has a code from `first` to `last`; `near` isn't before `start`,
-- and isn't after the end of the codes
pub record IsNext (codes : List ℕ) (first last start near : ℕ) : Type 0 where
  pub after : start ≤ near
  pub within : near ≤ length codes
  pub passed : (spot : ℕ) → start ≤ spot → spot < near → ¬ Lies first last (slice_index codes spot)
