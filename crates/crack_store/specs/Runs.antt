-- A run of rows: their serials rise by one, and each is inserted after the one before it.
use Rattle.std.specs.Prelude.{◌≡◌, ℕ, suc, ◌+◌, ◌<◌, ◌≤◌, ℤ, List, [], ◌∷◌, length, None}
use Rattle.std.specs.List.{All}
use Rattle.crack_row.specs.Ranges.{IsIn}
use Rattle.crack_row.specs.Rows.{row_with}
use Rattle.crack_row.specs.declared.Row.{Row}
use Rattle.crack_arena.specs.declared.TheConstants.{MOST_CELLS}
use Rattle.crack_serials.specs.Serials.{handle_of}
use Rattle.crack_state.specs.State.{State}
use Rattle.crack_state.specs.Steps.{row_inserted}

-- the rows with these keys and payloads, as many as the shorter list has; the serials rise by one from the given one
abbrev pub run_rows : ℕ → List ℕ → List ℤ → List Row
run_rows first (key ∷ keys) (payload ∷ payloads) =
    row_with (record { 0 = first }) (record { 0 = key }) (record { 0 = payload }) ∷ run_rows (suc first) keys payloads
run_rows _ _ _ = []

-- the store after these rows were inserted, in order
abbrev pub rows_inserted : List Row → State → State
rows_inserted [] s = s
rows_inserted (row ∷ rows) s = rows_inserted rows (row_inserted row s)

-- rows with these keys, and serials that rise by one from `first`, may be inserted one after the other: no such serial
-- is in the map, each key is one of the partition's, and for each row a cell is free or may be made
pub record AreInsertable (first : ℕ) (keys : List ℕ) (s : State) : Type 0 where
  pub fresh : (serial : ℕ) → first ≤ serial → serial < first + length keys → handle_of s.serials serial ≡ None
  pub within : All (IsIn s.keys) keys
  pub cells : length s.cells + length keys ≤ MOST_CELLS + length s.free
