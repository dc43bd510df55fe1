-- A store as a record of lists, and its invariants. A doomed row is one with a pending deletion. A row in hand is one
-- that a merge moves: it is in neither the column nor the pending insertions.
use Rattle.std.specs.Prelude.{◌≡◌, ℕ, ◌+◌, ◌<◌, ◌≤◌, ◌^◌, ◌-◌, ◌==◌, nat_lt, if◌then◌else◌, sum_by, List, ◌++◌, length, map, Option, Some, None, IsSome, IfSome}
use Rattle.std.specs.List.{All, filter_map, range_with_len}
use Rattle.crack_row.specs.Ranges.{Range, IsIn}
use Rattle.crack_row.specs.declared.Row.{Row}
use Rattle.crack_arena.specs.declared.TheConstants.{MOST_FREED}
use Rattle.crack_arena.specs.Arena.{Cell, Handle, read, cell_at, times, slots}
use Rattle.crack_serials.specs.Serials.{handle_of}
use Rattle.crack_index.specs.declared.mark.Mark.{Mark}
use Rattle.crack_index.specs.Marks.{Rising}
use Rattle.crack_arena.specs.Rows.{key_at}
use Rattle.crack_column.specs.Column.{IsDividedAt}
use Rattle.crack_state.specs.declared.MergeReport.{MergeReport}

-- a store: the partition's keys; the arena's cells, and the numbers of the free ones; the handles in the column, the
-- pending insertions (`pending_in`) and the pending deletions (`pending_out`); the index's marks, which are bounds
-- with their places; each live row's handle by its serial; what merges counted; and how many more handles fit into the
-- column and the pending insertions
pub record State : Type 0 where
  pub keys : Range
  pub cells : List (Cell Row)
  pub free : List ℕ
  pub column : List Handle
  pub pending_in : List Handle
  pub pending_out : List Handle
  pub marks : List Mark
  pub serials : List (ℕ × Handle)
  pub tally : MergeReport
  pub column_room : ℕ
  pub in_room : ℕ

-- a store with one handle in hand; the handle's cell isn't in the column, the pending insertions or the free list
pub record Carried : Type 0 where
  pub store : State
  pub hand : Handle

-- the handle reads a row: its cell, among these cells, has a row and the handle's generation
abbrev pub Reads : List (Cell Row) → Handle → Type 0
Reads cells h = IsSome (read cells h)

-- the number of each of the cells is in exactly one place: column, pending insertions, free list or `hand`, which is
-- empty if no row is in hand. All handles in these places, and in the pending deletions, read rows. The pending
-- deletions are distinct, and each is in the column or in `hand`
pub record IsOwned (cells : List (Cell Row)) (free : List ℕ) (column pending_in pending_out hand : List Handle) : Type 0 where
  pub once : (n : ℕ) → times n (slots column ++ slots pending_in ++ free ++ slots hand) ≡ (if nat_lt n (length cells) then 1 else 0)
  pub column_reads : All (Reads cells) column
  pub pending_reads : All (Reads cells) pending_in
  pub hand_reads : All (Reads cells) hand
  pub doomed_reads : All (Reads cells) pending_out
  pub doomed_once : (n : ℕ) → times n (slots pending_out) ≤ times n (slots column ++ slots hand)

-- each mark divides the column's keys, in order: those below its bound come first, and its position is their number
abbrev pub IsObeyed : List Mark → List ℕ → Type 0
IsObeyed marks keys = All (λ (m : Mark). IsDividedAt m.bound.0 keys m.position) marks

-- the row that commands see in a cell: the cell's row, or `None` if the cell has none or its row is doomed. The
-- arguments are the store's cells, the numbers of the doomed rows' cells, and this cell's number
abbrev pub live_at : List (Cell Row) → List ℕ → ℕ → Option Row
live_at cells doomed n = if times n doomed == 0 then (cell_at cells n).value else None

-- the store's live rows, which commands see: all rows but the doomed ones, in the order of their cells' numbers
abbrev pub live_rows : State → List Row
live_rows s = filter_map (live_at s.cells (slots s.pending_out)) (range_with_len 0 (length s.cells))

-- the map `serials` leads from the serial of each row in the cells that isn't doomed to the row's handle, and from no
-- other serial anywhere. `doomed` has the numbers of the doomed rows' cells
pub record IsKeyed (cells : List (Cell Row)) (doomed : List ℕ) (serials : List (ℕ × Handle)) : Type 0 where
  pub leads : (serial : ℕ) (h : Handle) → handle_of serials serial ≡ Some h
      → (row : Row) × (read cells h ≡ Some row) × (row.serial.0 ≡ serial) × (times h.slot doomed ≡ 0)
  pub lists : (h : Handle) (r : Row) → read cells h ≡ Some r → times h.slot doomed ≡ 0 → handle_of serials r.serial.0 ≡ Some h

-- how often these cells were freed, in total
abbrev pub freed_of : List (Cell Row) → ℕ
freed_of cells = sum_by (λ (c : Cell Row). c.generation) cells

-- the greatest value of a counter
abbrev pub greatest : ℕ
greatest = 2 ^ 64 - 1

-- `R` relates each counter of the report `before` to the same counter of the report `after`
pub record EachCounter (R : ℕ → ℕ → Type 0) (before after : MergeReport) : Type 0 where
  pub insertions : R before.insertions after.insertions
  pub deletions : R before.deletions after.deletions
  pub evicted : R before.evicted after.evicted
  pub moved : R before.moved after.moved
  pub pulled : R before.pulled after.pulled

-- the invariants of a store; `hand` has the handle in hand, or is empty. Each cell is in one place (`IsOwned`). The
-- marks rise; each divides the column's keys (`IsObeyed`), and its bound is strictly between the ends of the
-- partition's keys. The map of serials leads to the rows that aren't doomed, and to no others. Free cells have no row,
-- and each row's key is one of the partition's. There are fewer than 2^32 cells, at most `MOST_FREED` frees so far and
-- pending deletions together, and no counter above `greatest`
pub record IsIntact (s : State) (hand : List Handle) : Type 0 where
  pub owned : IsOwned s.cells s.free s.column s.pending_in s.pending_out hand
  pub obeyed : IsObeyed s.marks (map (key_at s.cells) s.column)
  pub rising : Rising s.marks
  pub inside : All (λ (m : Mark). (s.keys.low < m.bound.0) × (m.bound.0 < s.keys.high)) s.marks
  pub keyed : IsKeyed s.cells (slots s.pending_out) s.serials
  pub empty : All (λ n. (cell_at s.cells n).value ≡ None) s.free
  pub within : All (λ (c : Cell Row). IfSome c.value (λ r. IsIn s.keys r.key.0)) s.cells
  pub few_cells : length s.cells < 2 ^ 32
  pub few_freed : freed_of s.cells + length s.pending_out ≤ MOST_FREED
  pub counted : EachCounter (λ n same. n ≤ greatest) s.tally s.tally
