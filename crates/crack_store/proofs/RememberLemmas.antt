-- What the column and the pending lists remember stays right if a cell changes whose row they don't have.
use Rattle.std.proofs.Common.{◌≡◌, ◌≢◌, ℕ, List, [], Some, get_or, refl}
use Rattle.crack_row.specs.declared.Row.{Row}
use Rattle.crack_arena.specs.Arena.{Cell, Handle, read, times, slots, cells_with}
use Rattle.crack_arena.specs.Memories.{Memory, memory_at, Remembers}
use Rattle.crack_column.specs.Column.{Column}
use Rattle.crack_index.specs.Marks.{Index}
use Rattle.crack_state.specs.declared.MergeReport.{MergeReport}
use Rattle.crack_state.specs.State.{State, IsIntact}
use Rattle.crack_state.specs.Steps.{next_handle}
use Rattle.crack_state.proofs.OwnedLaws.{apart_from_times}
use Rattle.crack_state.proofs.CellLaws.{AgreeOff, read-off}
use Rattle.crack_state.proofs.InsertLaws.{filled, unused, read-new}
use Rattle.crack_store.specs.declared.inside.Inside.{Inside}
use Rattle.crack_store.specs.declared.notes.Notes.{Notes}
use Rattle.crack_store.specs.Inside.{lists_of}
use Rattle.crack_store.specs.Keeps.{KeepsIntact}

pub Remembers-off : (n : ℕ) (cells after : List (Cell Row)) (hs : List Handle) (remembered : List Memory) → AgreeOff n cells after → times n (slots hs) ≡ 0 → Remembers cells hs remembered → Remembers after hs remembered
Remembers-off n cells after hs remembered agree none remembers = record {
  beside = remembers.beside;
  right = λ k d h. rw (read-off n cells after (get_or hs k d) agree (apart_from_times hs n none k d h)) (remembers.right k d h);
}

-- a row is inserted
pub Remembers-row_inserted : (row : Row) (s : State) (remembered : List Memory) → IsIntact s [] → Remembers s.cells s.column remembered → Remembers (cells_with row s.cells s.free) s.column remembered
Remembers-row_inserted row s remembered intact remembers =
    Remembers-off (next_handle s).slot s.cells (cells_with row s.cells s.free) s.column remembered (filled s row s.free refl intact.owned).others (unused s s.free refl intact.owned).column remembers

-- if a step leaves the cells and the pending lists alone, what is remembered of these stays right
pub KeepsIntact-column : (p : Inside) (column : Column) (index : Index) (notes : Notes) (tally : MergeReport) (before after : List Handle) → KeepsIntact p before → IsIntact (lists_of (record p { column = column; index = index; notes = notes; tally = tally })) after → Remembers p.arena.cells column.handles column.remembered → KeepsIntact (record p { column = column; index = index; notes = notes; tally = tally }) after
KeepsIntact-column p column index notes tally before after kept intact remembers = record {
  intact = intact;
  remembers = remembers;
  keys_in = kept.keys_in;
  keys_out = kept.keys_out;
  room = kept.room;
  covered = kept.covered;
}

-- what is to be remembered about a row
abbrev pub memory_of : Row → Memory
memory_of row = record { key = row.key.0; payload = row.payload }

-- about the row that a handle reads
pub memory-read : (cells : List (Cell Row)) (h : Handle) (row : Row) → read cells h ≡ Some row → memory_of row ≡ memory_at cells h
memory-read cells h row reads = rw reads refl

-- the cells of other rows are unchanged
pub memory_at-off : (n : ℕ) (cells after : List (Cell Row)) (h : Handle) → AgreeOff n cells after → h.slot ≢ n → memory_at after h ≡ memory_at cells h
memory_at-off n cells after h agree ne = rw (read-off n cells after h agree ne) refl

-- what is known of the cell of a row that is inserted
pub record Added (row : Row) (s : State) (h : Handle) : Type 0 where
  pub agree : AgreeOff h.slot s.cells (cells_with row s.cells s.free)
  pub memory : memory_of row ≡ memory_at (cells_with row s.cells s.free) h
  pub off_column : times h.slot (slots s.column) ≡ 0
  pub off_in : times h.slot (slots s.pending_in) ≡ 0
  pub off_out : times h.slot (slots s.pending_out) ≡ 0

-- a row is inserted, whose cell no list names
pub added : (row : Row) (s : State) → IsIntact s [] → (h : Handle) → h ≡ next_handle s → Added row s h
added row s intact h is =
    let fill = filled s row s.free refl intact.owned in
    let off = unused s s.free refl intact.owned in
    record {
      agree = rw is fill.others;
      memory = rw (is, read-new s.cells (cells_with row s.cells s.free) (next_handle s) row fill) refl;
      off_column = rw is off.column;
      off_in = rw is off.pending;
      off_out = rw is off.doomed;
    }
