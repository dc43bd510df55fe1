-- What private clauses alone cite.
-- Which ends of a range are missing from the index, and the room that cracks at them and beside them need.
use Rattle.std.specs.Prelude.{◌≡◌, ◌≢◌, ◌⊎◌, ℕ, ◌<◌, ◌≤◌, length}
use Rattle.crack_row.specs.Ranges.{Range}
use Rattle.crack_row.specs.declared.InnerBound.{InnerBound}
use Rattle.crack_index.specs.declared.index.Piece.{Piece}
use Rattle.crack_index.specs.Marks.{HasBound, piece_at}
use Rattle.crack_state.specs.State.{State}
use Rattle.crack_state.specs.Merge.{IsInner, IsCracked, bound_above}
use Rattle.crack_store.specs.Further.{IsMissing}
use Rattle.crack_store.specs.declared.cracking.Gap.{Gap}
use Rattle.crack_store.specs.declared.cracking.Missing.{Missing}
use Rattle.crack_store.specs.declared.cracking.Missing.TheVariants.{Neither, One, Together, Apart}

-- the bound is missing from the index (`IsMissing`), and `piece` is the piece into which it falls
pub record MissesIn (s : State) (bound : ℕ) (piece : Piece) : Type 0 where
  pub missing : IsMissing s bound
  pub piece_is : piece ≡ piece_at bound (length s.column) s.marks

-- how many ends of a range are missing, by this value: 0, 1 or 2
abbrev pub bounds_in : Missing → ℕ
bounds_in Neither = 0
bounds_in (One gap) = 1
bounds_in (Together low high) = 2
bounds_in (Apart low high) = 2

-- two bounds are missing from the index: that of the gap, and `second` above it, which falls into the same piece
pub record FallTogether (s : State) (gap : Gap) (second : InnerBound) : Type 0 where
  pub low : MissesIn s gap.bound.0 gap.piece
  pub order : gap.bound.0 < second.0
  pub below : second.0 < bound_above s gap.bound.0

-- the bounds of the gaps are missing from the index, and it has one between them, above `first` and below `second`
pub record FallApart (s : State) (first second : Gap) : Type 0 where
  pub low : MissesIn s first.bound.0 first.piece
  pub high : MissesIn s second.bound.0 second.piece
  pub behind : bound_above s first.bound.0 ≤ second.bound.0

-- the first number is the range's low end, and the second its high end
abbrev pub AreEnds : Range → ℕ → ℕ → Type 0
AreEnds r low high = (low ≡ r.low) × (high ≡ r.high)

-- the value has the ends of the range that are missing, with the pieces into which they fall, and no other end is
-- missing: absent from the index, though strictly between the ends of the partition's keys
abbrev pub Misses : State → Range → Missing → Type 0
Misses s r Neither = IsCracked s r
Misses s r (One gap) = MissesIn s gap.bound.0 gap.piece × ((gap.bound.0 ≡ r.low) ⊎ (gap.bound.0 ≡ r.high)) × ((b : ℕ) → IsInner s.keys r b → b ≢ gap.bound.0 → HasBound s.marks b)
Misses s r (Together low high) = AreEnds r low.bound.0 high.0 × FallTogether s low high
Misses s r (Apart low high) = AreEnds r low.bound.0 high.bound.0 × FallApart s low high

-- `room`, the room for bounds in the index, is at least two for each end of the range that is missing from it
pub record HasRoomBeside (s : State) (r : Range) (room : ℕ) : Type 0 where
  pub low : IsMissing s r.low → 2 ≤ room
  pub high : IsMissing s r.high → 2 ≤ room
  pub both : IsMissing s r.low → IsMissing s r.high → 4 ≤ room
