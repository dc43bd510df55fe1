-- Words of laws for parts of a store's invariant.
use Rattle.std.proofs.Common.{◌≡◌, ℕ, ◌<◌, ◌≤◌, List, ◌++◌, map, Some, None, IfSome}
use Rattle.std.specs.List.{All}
use Rattle.crack_row.specs.Ranges.{Range, IsIn}
use Rattle.crack_row.specs.declared.Row.{Row}
use Rattle.crack_arena.specs.Arena.{Cell, Handle, read, cell_at, times, slots}
use Rattle.crack_arena.specs.Rows.{key_at}
use Rattle.crack_column.specs.Column.{IsDividedAt}
use Rattle.crack_index.specs.declared.mark.Mark.{Mark}
use Rattle.crack_state.specs.declared.MergeReport.{MergeReport}
use Rattle.crack_state.specs.State.{State, EachCounter, greatest}

-- where the cells' numbers are
abbrev pub places : List Handle → List Handle → List ℕ → List Handle → List ℕ
places column pending_in free hand = slots column ++ slots pending_in ++ free ++ slots hand

-- the keys of the column's rows, in their order
abbrev pub column_keys : State → List ℕ
column_keys s = map (key_at s.cells) s.column

-- a mark divides keys: those below its bound are first, and its position is their number
abbrev pub Divides : List ℕ → Mark → Type 0
Divides keys m = IsDividedAt m.bound.0 keys m.position

-- every bound lies strictly between the partition's ends
abbrev pub AreInside : Range → List Mark → Type 0
AreInside keys marks = All (λ (m : Mark). (keys.low < m.bound.0) × (m.bound.0 < keys.high)) marks

-- a free cell has no value
abbrev pub AreEmpty : List (Cell Row) → List ℕ → Type 0
AreEmpty cells free = All (λ n. (cell_at cells n).value ≡ None) free

-- the key of every row is one of these
abbrev pub HaveKeysIn : Range → List (Cell Row) → Type 0
HaveKeysIn keys cells = All (λ (c : Cell Row). IfSome c.value (λ r. IsIn keys r.key.0)) cells

-- every counter fits
abbrev pub IsCounted : MergeReport → Type 0
IsCounted tally = EachCounter (λ n same. n ≤ greatest) tally tally

-- the handle reads a row with this serial, and it isn't doomed
pub record IsLiveAt (cells : List (Cell Row)) (doomed : List ℕ) (serial : ℕ) (h : Handle) : Type 0 where
  pub row : Row
  pub reads : read cells h ≡ Some row
  pub same : row.serial.0 ≡ serial
  pub kept : times h.slot doomed ≡ 0

-- where the map of serials leads
pub is_live : (cells : List (Cell Row)) (doomed : List ℕ) (serial : ℕ) (h : Handle) → (row : Row) × (read cells h ≡ Some row) × (row.serial.0 ≡ serial) × (times h.slot doomed ≡ 0) → IsLiveAt cells doomed serial h
is_live cells doomed serial h at = record { row = at.0; reads = at.1; same = at.2; kept = at.3 }
