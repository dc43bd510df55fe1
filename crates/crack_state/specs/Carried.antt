-- A store whose column is in pieces, after all carries of a range: of the pending insertions with keys in it. A carry
-- takes one of these into the hand, puts it at the end of its own piece, takes the first row of the next piece from
-- there into the hand, and so on up to the last piece. It ends before that with a doomed row in hand, which is buried,
-- or with one at or above the ceiling, if there is one, which is evicted: put back among the pending insertions.
use Rattle.std.specs.Prelude.{ℕ, ◌+◌, Bool, false, cond, nat_lt, nat_le, ◌||◌, min, map, filter, List, [], ◌∷◌, length, Option, Some, None}
use Rattle.crack_row.specs.Ranges.{Range, is_in}
use Rattle.crack_row.specs.declared.Row.{Row}
use Rattle.crack_arena.specs.Arena.{Cell, Handle, times, slots}
use Rattle.crack_arena.specs.Rows.{key_at}
use Rattle.crack_index.specs.declared.mark.Mark.{Mark}
use Rattle.crack_state.specs.declared.MergeReport.{MergeReport}
use Rattle.crack_state.specs.State.{State, Carried, greatest}
use Rattle.crack_state.specs.Steps.{buried, returned}
use Rattle.crack_state.specs.Merge.{outside_of}
use Rattle.crack_state.specs.Pieces.{Pieces, column_of, marks_of, cut}
use Rattle.crack_state.specs.Queues.{CarryState, comes, turns, stopped, in_bulk, bulk_outcomes}

-- the pieces into which a store's marks divide its column
abbrev pub pieces_of : State → Pieces Handle
pieces_of s = cut 0 s.marks s.column

-- whether a key is at or above the ceiling; false if there is no ceiling
abbrev pub is_over : Option ℕ → ℕ → Bool
is_over None key = false
is_over (Some bound) key = nat_le bound key

-- whether the handle's row is doomed: one of the store's pending deletions has the handle's cell
abbrev pub is_doomed : State → Handle → Bool
is_doomed s h = nat_lt 0 (times h.slot (slots s.pending_out))

-- whether a carry ends with this handle in hand: it is doomed, or its key is at or above the ceiling, if there is one
abbrev pub ends_with : Option ℕ → State → Handle → Bool
ends_with ceiling s h = is_doomed s h || is_over ceiling (key_at s.cells h)

-- the tally with this many more rows moved, up to the greatest number of a counter
abbrev pub moved_by : ℕ → MergeReport → MergeReport
moved_by count tally = record tally { moved = min (tally.moved + count) greatest }

-- the store with this column, these marks, this many more rows moved in its tally, and this handle in hand
abbrev pub carried_with : State → List Handle → List Mark → ℕ → Handle → Carried
carried_with s column marks moved hand =
    record {
      store = record s {
        column = column;
        marks = marks;
        tally = moved_by moved s.tally;
      };
      hand = hand;
    }

-- the store after a carry ended with this outcome, the state in which it left the last piece. The rows that it moved
-- are counted; the row that it stopped with, if any, is buried if it is doomed, otherwise evicted. The column, the
-- marks and the room don't change; for `comes`, which is no outcome of a carry, nothing does
abbrev pub ended_so : CarryState Handle → State → State
ended_so (comes x) s = s
ended_so (turns moved) s = record s { tally = moved_by moved s.tally }
ended_so (stopped moved hand) s =
    let c = carried_with s s.column s.marks moved hand in
    record (cond (is_doomed s hand) (buried c) (returned c)) { in_room = s.in_room }

-- the store after carries with these outcomes, in order, as `ended_so` says of each
abbrev pub ended_by : List (CarryState Handle) → State → State
ended_by [] s = s
ended_by (e ∷ es) s = ended_by es (ended_so e s)

-- those of the handles whose rows, read in these cells, have their key in the range, in order
abbrev pub inside_of : List (Cell Row) → Range → List Handle → List Handle
inside_of cells r hs = filter (λ h. is_in r (key_at cells h)) hs

-- the tally with this many more insertions, up to the greatest number of a counter
abbrev pub insertions_by : ℕ → MergeReport → MergeReport
insertions_by count tally = record tally { insertions = min (tally.insertions + count) greatest }

-- the pending insertions with keys in a range, in order, each as the state in which its carry reaches the lowest piece
abbrev pub arrivals : Range → State → List (CarryState Handle)
arrivals r s = map comes (inside_of s.cells r s.pending_in)

-- the store, except its room, after all pending insertions of a range were carried under the ceiling, if there is one.
-- They are counted, and the other pending insertions stay. Each piece is as the carries leave it, and each bound is at
-- the end of its piece. The rows that carries stopped with are buried or evicted, in order
abbrev pub carried_in_bulk : Option ℕ → Range → State → State
carried_in_bulk ceiling r s =
    let key = key_at s.cells in
    let stops = ends_with ceiling s in
    let pieces = in_bulk key stops (arrivals r s) (pieces_of s) in
    ended_by (bulk_outcomes key stops (arrivals r s) (pieces_of s)) (record s {
      column = column_of pieces;
      marks = marks_of 0 pieces;
      pending_in = outside_of s.cells r s.pending_in;
      tally = insertions_by (length (arrivals r s)) s.tally;
    })
