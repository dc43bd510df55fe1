-- What a ripple merge of the range `r` leaves unchanged, and what it counts.
use Rattle.std.specs.Prelude.{◌≡◌, ℕ, ◌+◌, ◌*◌, ◌≤◌, ◌&&◌, nat_lt, max, min, length, take, drop, count_by, []}
use Rattle.crack_row.specs.Ranges.{Range}
use Rattle.crack_index.specs.Marks.{bounds_of}
use Rattle.crack_state.specs.State.{State, IsIntact}
use Rattle.crack_state.specs.Merge.{Follows, StillReads, SomeOf, Evicts, LosesFirst, IsExact, beyond, edge, outside_of, count_inside}

-- from `s` to `t`, the pending insertions in a range are inserted. The column stays the same before the place of the
-- range's low end, and from the new place of its high end on. Of the rows whose places were taken, doomed ones are
-- buried, and others evicted: at most as many of each as there were pending insertions in the range. The column keeps
-- its length, unless the range's high end moves past it
pub record PutsInNear (s t : State) (r : Range) : Type 0 where
  pub follows : Follows s t
  pub intact : IsIntact t []
  pub evicts : Evicts s r t.pending_in
  pub pending_out : SomeOf t.pending_out s.pending_out
  pub few : length s.pending_out ≤ length t.pending_out + count_inside s.cells r s.pending_in
  pub reads : StillReads s.cells t.cells
  pub before : take (edge s r.low) t.column ≡ take (edge s r.low) s.column
  pub behind : drop (edge t r.high) t.column ≡ drop (edge t r.high) s.column
  pub long : length t.column ≡ max (length s.column) (edge t r.high)

-- how many of the pending deletions in a range get a filler, a pending insertion that takes the deleted row's place:
-- all, or as many as there are pending insertions from the range's high end up to the next bound, if these are fewer
abbrev pub fillers_of : State → Range → ℕ
fillers_of s r = min (count_inside s.cells (beyond s r) s.pending_in) (count_inside s.cells r s.pending_out)

-- from `s` to `t`, the rows with pending deletions in a range are deleted, and no others. The first `fillers_of s r`
-- fillers leave the pending insertions, and the column is shorter by one for each deleted row without a filler. If
-- each has a filler, the column is unchanged from the place of the range's high end on
pub record TakesOutNear (s t : State) (r : Range) : Type 0 where
  pub follows : Follows s t
  pub intact : IsIntact t []
  pub pending_in : LosesFirst s.cells (beyond s r) (fillers_of s r) s.pending_in t.pending_in
  pub pending_out : t.pending_out ≡ outside_of s.cells r s.pending_out
  pub reads : StillReads s.cells t.cells
  pub long : length t.column + length s.pending_out ≡ length s.column + length t.pending_out + fillers_of s r
  pub behind : fillers_of s r ≡ count_inside s.cells r s.pending_out → drop (edge s r.high) t.column ≡ drop (edge s r.high) s.column

-- from `s` to `t`, a merge of the range: first its pending insertions are inserted, as `PutsInNear` says, and then the
-- rows with its remaining pending deletions are deleted, as `TakesOutNear` says
pub record MergesNear (s t : State) (r : Range) : Type 0 where
  pub filled : State
  pub puts_in : PutsInNear s filled r
  pub takes_out : TakesOutNear filled t r

-- the number of pieces of the range, in a store that is cracked at the range's ends
abbrev pub piece_count : State → Range → ℕ
piece_count s r = count_by (λ bound. nat_lt r.low bound && nat_lt bound r.high) (bounds_of s.marks) + 1

-- if no counter of `t` has reached its greatest value, the rows inserted from `s` to `t` moved on average at most as
-- many rows as the range has pieces in `s`
abbrev pub MovesNear : State → State → Range → Type 0
MovesNear s t r = IsExact t.tally → t.tally.moved + s.tally.insertions * piece_count s r ≤ s.tally.moved + t.tally.insertions * piece_count s r
