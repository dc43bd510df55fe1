-- What private clauses alone cite.
-- The live rows that a pass over the cells has found.
use Rattle.std.specs.Prelude.{◌≡◌, ◌++◌, ◌≤◌, ◌<◌, ℕ, List, [], length, slice_index_or}
use Rattle.std.specs.List.{filter, filter_map, range_with_len}
use Rattle.std.specs.List.Sorted.{IsNonDecreasingBy}
use Rattle.crack_row.specs.Ranges.{Range, in_range}
use Rattle.crack_row.specs.declared.Row.{Row}
use Rattle.crack_arena.specs.Arena.{slots}
use Rattle.crack_state.specs.State.{State, live_at}
use Rattle.crack_state.specs.Stretch.{serial_of}
use Rattle.crack_store.specs.declared.found.Found.{Found}
use Rattle.crack_store.specs.declared.found.Order.TheVariants.{Rising}

-- the live rows with keys in the range in the cells numbered below the given number, in the order of the numbers
abbrev pub live_below : Range → ℕ → State → List Row
live_below r slot s = filter (in_range r) (filter_map (live_at s.cells (slots s.pending_out)) (range_with_len 0 slot))

-- the serials of the rows never fall from one row to the next, and none is above `last`
pub record AreRising (rows : List Row) (last : ℕ) : Type 0 where
  pub rise : IsNonDecreasingBy serial_of rows
  pub most : (place : ℕ) (row : Row) → place < length rows → serial_of (slice_index_or rows place row) ≤ last

-- all rows found: those of `rows`, in order, and then those that were put aside
abbrev pub all_of : Found → List Row
all_of found = found.rows.items ++ found.aside.items

-- if the order of what was found is `Rising`, no row was put aside, and the serials never fall and are at most `last`
abbrev pub KeepsOrder : Found → Type 0
KeepsOrder found = found.order ≡ Rising → AreRising found.rows.items found.last × (found.aside.items ≡ [])
