-- What private clauses alone cite.
-- A row of a run, and room for rows that are to be inserted.
use Rattle.std.specs.Prelude.{ℕ, ◌+◌, ◌-◌, ◌≤◌, ℤ, pos, List, length, slice_index_or}
use Rattle.crack_row.specs.Rows.{row_with}
use Rattle.crack_row.specs.declared.Row.{Row}
use Rattle.crack_serials.specs.Serials.{HasRoom}
use Rattle.crack_store.specs.declared.inside.Inside.{Inside}

-- the row at index `k` of a run that begins with the serial `first`; a key or a payload missing at `k` counts as 0
abbrev pub row_of_run : ℕ → List ℕ → List ℤ → ℕ → Row
row_of_run first keys payloads k =
    row_with (record { 0 = first + k }) (record { 0 = slice_index_or keys k 0 }) (record { 0 = slice_index_or payloads k (pos 0) })

-- `count` rows, with serials from `first` on, can be inserted without taking memory
pub record HasRooms (first count : ℕ) (p : Inside) : Type 0 where
  pub pending : count ≤ p.pending_in.room
  pub cells : count ≤ p.arena.room
  pub serials : HasRoom p.serials first count
  pub places : length p.arena.cells + (count - length p.arena.free) ≤ p.pending_in.covered
