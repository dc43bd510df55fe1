-- A store whose column is in pieces, after all pulls of a range without fillers. A pull removes a doomed row. The last
-- row of its piece takes its place; then the last row of each higher piece moves to the place right before that piece.
use Rattle.std.specs.Prelude.{ℕ, ◌+◌, Bool, true, nat_lt, min, List, [], ◌∷◌, length}
use Rattle.crack_row.specs.Ranges.{Range}
use Rattle.crack_row.specs.declared.InnerBound.{InnerBound}
use Rattle.crack_arena.specs.Arena.{Handle}
use Rattle.crack_arena.specs.Rows.{key_at}
use Rattle.crack_column.specs.Drains.{drained, drawn}
use Rattle.crack_state.specs.declared.MergeReport.{MergeReport}
use Rattle.crack_state.specs.State.{State, greatest}
use Rattle.crack_state.specs.Steps.{buried}
use Rattle.crack_state.specs.Pieces.{Pieces, last, below, column_of, marks_of}
use Rattle.crack_state.specs.Carried.{pieces_of, inside_of}

-- `D` is what stands for a doomed row; `key` and `handle` give its key and its handle
module _ {D : Type 0} (key : D → ℕ) (handle : D → Handle) where
  -- true: every doomed row is in the last piece or in a lower one
  abbrev pub any_doomed : D → Bool
  any_doomed d = true

  -- whether a doomed row is in the piece that ends at this bound, or in a lower one: its key is below the bound
  abbrev pub ends_above : InnerBound → D → Bool
  ends_above bound d = nat_lt (key d) bound.0

  -- the pieces after the pulls of the doomed rows in the list, in order. The number is the bound `low` at which the
  -- first piece begins. Each piece changes by the pulls of its own doomed rows and of those of lower pieces
  abbrev pub pulled : ℕ → List D → Pieces Handle → Pieces Handle
  pulled low ds (last rows) = last (drained key handle low any_doomed ds rows)
  pulled low ds (below rows bound pieces) = below (drained key handle low (ends_above bound) ds rows) bound (pulled bound.0 ds pieces)

  -- how often the pulls of the doomed rows in the list move another row of the pieces. The number is the bound `low`
  -- at which the first piece begins
  abbrev pub all_drawn : ℕ → List D → Pieces Handle → ℕ
  all_drawn low ds (last rows) = drawn key handle low any_doomed ds rows
  all_drawn low ds (below rows bound pieces) = drawn key handle low (ends_above bound) ds rows + all_drawn bound.0 ds pieces

-- the handle of a doomed row, if the row is given by its handle: the handle itself
abbrev pub itself : Handle → Handle
itself h = h

-- the tally with this many more rows pulled, up to the greatest number of a counter
abbrev pub pulled_by : ℕ → MergeReport → MergeReport
pulled_by count tally = record tally { pulled = min (tally.pulled + count) greatest }

-- the store after the rows of these handles, which are doomed, were buried in order (`buried`)
abbrev pub buried_all : List Handle → State → State
buried_all [] s = s
buried_all (h ∷ hs) s = buried_all hs (buried (record { store = s; hand = h }))

-- the store after the pulls of these doomed rows, in order, without fillers: each piece is as the pulls leave it, each
-- bound is at the end of its piece, and the doomed rows are buried in the same order
abbrev pub pulled_from : List Handle → State → State
pulled_from hs s =
    let pieces = pulled (key_at s.cells) itself 0 hs (pieces_of s) in
    buried_all hs (record s {
      column = column_of pieces;
      marks = marks_of 0 pieces;
      tally = pulled_by (all_drawn (key_at s.cells) itself 0 hs (pieces_of s)) s.tally;
      column_room = s.column_room + length hs;
    })

-- the store after the pulls of all pending deletions with keys in the range, in order of arrival, without fillers
abbrev pub pulled_in_bulk : Range → State → State
pulled_in_bulk r s = pulled_from (inside_of s.cells r s.pending_out) s
