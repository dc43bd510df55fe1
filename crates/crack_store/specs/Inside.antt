-- What contracts see of the parts of a store.
use Rattle.std.specs.Prelude.{◌≡◌, ◌+◌, ◌-◌, ℕ, [], length}
use Rattle.crack_row.specs.Ranges.{Range}
use Rattle.crack_row.specs.declared.layout.Layout.{Layout}
use Rattle.crack_index.specs.Marks.{pieces_from}
use Rattle.crack_state.specs.declared.MergeReport.{MergeReport}
use Rattle.crack_state.specs.State.{State}
use Rattle.crack_store.specs.declared.inside.Inside.{Inside}

-- the parts of a store, as lists
abbrev pub lists_of : Inside → State
lists_of p = record {
  keys = p.keys;
  cells = p.arena.cells;
  free = p.arena.free;
  column = p.column.handles;
  pending_in = p.pending_in.handles;
  pending_out = p.pending_out.handles;
  marks = p.index.marks;
  serials = p.serials.entries;
  tally = p.tally;
  column_room = p.column.room;
  in_room = p.in_room;
}

-- merge counts that are all 0
abbrev pub no_report : MergeReport
no_report = record { insertions = 0; deletions = 0; evicted = 0; moved = 0; pulled = 0 }

-- a store for these keys, without rows, cells and bounds; the numbers are its `column_room` and its `in_room`
abbrev pub no_cells : Range → ℕ → ℕ → State
no_cells keys column_room in_room = record {
  keys = keys;
  cells = [];
  free = [];
  column = [];
  pending_in = [];
  pending_out = [];
  marks = [];
  serials = [];
  tally = no_report;
  column_room = column_room;
  in_room = in_room;
}

-- `layout` has the number of the rows of `s` that aren't doomed, the lengths of its lists, and its pieces
pub record IsLayoutOf (s : State) (layout : Layout) : Type 0 where
  pub rows : layout.rows ≡ length s.column - length s.pending_out + length s.pending_in
  pub column : layout.column ≡ length s.column
  pub pending_out : layout.pending_out ≡ length s.pending_out
  pub pending_in : layout.pending_in ≡ length s.pending_in
  pub cells : layout.cells ≡ length s.cells
  pub free : layout.free ≡ length s.free
  pub pieces : layout.pieces ≡ pieces_from (record { 0 = s.keys.low }) 0 s.marks (record { 0 = s.keys.high }) (length s.column)
