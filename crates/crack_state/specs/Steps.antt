-- The effect of each step on a store. A word before a colon is the call with this effect. The hand is the handle in
-- hand. The own piece of a key is the one to which rows with that key belong; the hand's is that of its key.
use Rattle.std.specs.Prelude.{◌≡◌, ⊤, ℕ, ◌+◌, ◌-◌, ◌<◌, nat_lt, min, map, take, drop, length, count_by, List, [], ◌∷◌, ◌++◌, Option, Some, None, slice_index_or, slice_set}
use Rattle.std.specs.List.{remove}
use Rattle.crack_row.specs.Ranges.{IsIn}
use Rattle.crack_row.specs.declared.Row.{Row}
use Rattle.crack_row.specs.declared.Bound.{Bound}
use Rattle.crack_arena.specs.declared.TheConstants.{MOST_CELLS}
use Rattle.crack_arena.specs.Arena.{Handle, no_handle, times, slots, place_in, handle_for, cells_with}
use Rattle.crack_index.specs.declared.mark.Mark.{Mark}
use Rattle.crack_index.specs.Marks.{next_mark, last_mark, start_of, end_of, raised, lowered, lowered_at}
use Rattle.crack_arena.specs.Rows.{key_at}
use Rattle.crack_serials.specs.Serials.{with_serial, handle_of}
use Rattle.crack_state.specs.declared.MergeReport.{MergeReport}
use Rattle.crack_state.specs.State.{State, Carried, greatest}

-- the key of the row in hand
abbrev pub hand_key : Carried → ℕ
hand_key c = key_at c.store.cells c.hand

-- where the own piece of a key begins: at the place of the greatest bound at or below the key, or at 0
abbrev pub piece_start : State → ℕ → ℕ
piece_start s key = start_of (last_mark key s.marks)

-- where the own piece of a key ends: at the place of the least bound above the key, or at the column's end
abbrev pub piece_end : State → ℕ → ℕ
piece_end s key = end_of (length s.column) (next_mark key s.marks)

-- the marks, after the given one and those with higher bounds at the same place moved up by one place. The given one
-- is the lowest above a key; if none is given, no mark moves
abbrev pub raise_next : Option Mark → List Mark → List Mark
raise_next None marks = marks
raise_next (Some m) marks = map (raised m.bound.0 m.position) marks

-- the marks, after the given one and those with lower bounds at the same place moved down by one place. The given one
-- is the highest at or below a key; if none is given, no mark moves
abbrev pub lower_last : Option Mark → List Mark → List Mark
lower_last None marks = marks
lower_last (Some m) marks = map (lowered m.bound.0 m.position) marks

-- the row in hand is doomed: it has a pending deletion
abbrev pub IsDoomed : Carried → Type 0
IsDoomed c = 0 < times c.hand.slot (slots c.store.pending_out)

-- a number plus one, but at most the greatest value of a counter
abbrev pub more : ℕ → ℕ
more n = min (n + 1) greatest

-- the handle in hand goes to a place of the column, and the handle that was there is then in hand; the store gets
-- these marks and this tally
abbrev pub put_at : ℕ → List Mark → MergeReport → Carried → Carried
put_at place marks tally c =
    record {
      store = record c.store {
        column = slice_set c.store.column place c.hand;
        marks = marks;
        tally = tally;
      };
      hand = slice_index_or c.store.column place c.hand;
    }

-- lift: the pending insertion at place `i` (from 0) is taken into the hand, and counts as one more insertion
abbrev pub lifted : ℕ → State → Carried
lifted i s =
    record {
      store = record s {
        pending_in = remove s.pending_in i;
        tally = record s.tally { insertions = more s.tally.insertions };
      };
      hand = slice_index_or s.pending_in i no_handle;
    }

-- lift_last: the column's last handle is taken into the hand, and the bounds at the column's end move down by one
abbrev pub lifted_last : State → Carried
lifted_last s =
    record {
      store = record s {
        column = take (length s.column - 1) s.column;
        marks = map (lowered_at (length s.column)) s.marks;
        column_room = s.column_room + 1;
      };
      hand = slice_index_or s.column (length s.column - 1) no_handle;
    }

-- push_on: the hand takes the place where its own piece ends, and the row that was there is then in hand and counts as
-- moved; the bounds at that place that are above the key of the row put there move up by one
abbrev pub pushed_on : Carried → Carried
pushed_on c =
    put_at (piece_end c.store (hand_key c)) (raise_next (next_mark (hand_key c) c.store.marks) c.store.marks) (record c.store.tally { moved = more c.store.tally.moved }) c

-- pull_back: the hand takes the place right before its own piece, and the row that was there is then in hand and
-- counts as pulled. So the own piece of the row put there begins one place earlier: of the bounds where it began, those
-- at or below that row's key move down by one place, and those above it stay
abbrev pub pulled_back : Carried → Carried
pulled_back c =
    put_at (piece_start c.store (hand_key c) - 1) (lower_last (last_mark (hand_key c) c.store.marks) c.store.marks) (record c.store.tally { pulled = more c.store.tally.pulled }) c

-- exchange: the hand takes this place, and the row that was there is then in hand and counts as pulled; no bound moves
abbrev pub exchanged : ℕ → Carried → Carried
exchanged place c = put_at place c.store.marks (record c.store.tally { pulled = more c.store.tally.pulled }) c

-- append: the hand becomes the column's last row, and the bounds above its key where its own piece ends move up by one
abbrev pub appended : Carried → State
appended c =
    record c.store {
      column = c.store.column ++ c.hand ∷ [];
      marks = raise_next (next_mark (hand_key c) c.store.marks) c.store.marks;
      column_room = c.store.column_room - 1;
    }

-- append_all: all pending insertions are appended to the column, in order of arrival, and counted as insertions. If
-- there is no bound, their carries do the same
abbrev pub all_appended : State → State
all_appended s =
    record s {
      column = s.column ++ s.pending_in;
      pending_in = [];
      tally = record s.tally { insertions = min (s.tally.insertions + length s.pending_in) greatest };
    }

-- bury: the hand, which is doomed, is removed from the pending deletions and counts as deleted, and its cell is freed
abbrev pub buried : Carried → State
buried c =
    record c.store {
      cells = slice_set c.store.cells c.hand.slot (record { generation = c.hand.generation + 1; value = None });
      free = c.hand.slot ∷ c.store.free;
      pending_out = remove c.store.pending_out (place_in c.store.pending_out c.hand.slot);
      tally = record c.store.tally { deletions = more c.store.tally.deletions };
    }

-- the handle of the cell that the next row gets
abbrev pub next_handle : State → Handle
next_handle s = handle_for s.cells s.free

-- insert: this row, in a free cell or a new one, becomes the last pending insertion, and the map gets its serial
abbrev pub row_inserted : Row → State → State
row_inserted row s =
    record s {
      cells = cells_with row s.cells s.free;
      free = drop 1 s.free;
      pending_in = s.pending_in ++ next_handle s ∷ [];
      serials = with_serial row.serial.0 (next_handle s) s.serials;
      in_room = s.in_room - 1;
    }

-- this row may be inserted: its serial isn't in the map, its key is one of the partition's, and there is a free cell
-- or fewer than `MOST_CELLS` cells
pub record IsInsertable (row : Row) (s : State) : Type 0 where
  pub fresh : handle_of s.serials row.serial.0 ≡ None
  pub within : IsIn s.keys row.key.0
  pub cell : length s.cells < MOST_CELLS + length s.free

-- `t` is `s`, except that the room for more handles in the column and in the pending insertions may differ
pub record SameButRoom (s t : State) : Type 0 where
  pub same : t ≡ record s { column_room = t.column_room; in_room = t.in_room }

-- the number of bounds above a key
abbrev pub bounds_above : ℕ → List Mark → ℕ
bounds_above key marks = count_by (λ (m : Mark). nat_lt key m.bound.0) marks

-- put_back: the hand becomes the last pending insertion, and counts as evicted
abbrev pub returned : Carried → State
returned c =
    record c.store {
      pending_in = c.store.pending_in ++ c.hand ∷ [];
      tally = record c.store.tally { evicted = more c.store.tally.evicted };
      in_room = c.store.in_room - 1;
    }

-- a ceiling as a number: that of its bound, or `None` if there is no ceiling
abbrev pub ceiling_of : Option Bound → Option ℕ
ceiling_of None = None
ceiling_of (Some bound) = Some bound.0

-- the key is below the ceiling, or there is no ceiling
abbrev pub IsBelow : Option ℕ → ℕ → Type 0
IsBelow None key = ⊤
IsBelow (Some bound) key = key < bound

-- any number of `pushed_on` steps, or none, lead from the first state to the second; before each step the hand isn't
-- doomed, its key is below the ceiling, if there is one, and its own piece ends before the column's end
pub data PushesOn (ceiling : Option ℕ) : Carried → Carried → Type 0 where
  stays : (c : Carried) → PushesOn ceiling c c
  pushes : (c d : Carried) → ¬ IsDoomed c → IsBelow ceiling (hand_key c) → piece_end c.store (hand_key c) < length c.store.column → PushesOn ceiling (pushed_on c) d → PushesOn ceiling c d

-- any number of `pulled_back` steps, or none, lead from the first state to the second; before each step the hand's own
-- piece begins after `place`
pub data PullsBack (place : ℕ) : Carried → Carried → Type 0 where
  stays : (c : Carried) → PullsBack place c c
  pulls : (c d : Carried) → place < piece_start c.store (hand_key c) → PullsBack place (pulled_back c) d → PullsBack place c d
