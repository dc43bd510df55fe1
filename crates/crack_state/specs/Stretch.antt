-- The rows that a range command reads from the column.
use Rattle.std.specs.Prelude.{ℕ, List}
use Rattle.std.specs.List.{filter_map, between}
use Rattle.crack_row.specs.Ranges.{Range}
use Rattle.crack_row.specs.declared.Row.{Row}
use Rattle.crack_arena.specs.Arena.{read}
use Rattle.crack_state.specs.State.{State}
use Rattle.crack_state.specs.Merge.{edge}

-- the rows at the column's places from the first number up to but not including the second, in order
abbrev pub rows_within : State → ℕ → ℕ → List Row
rows_within s from to = filter_map (read s.cells) (between from to s.column)

-- the column's rows from the place of the range's low end up to that of its high end (`edge`), in order
abbrev pub stretch_rows : State → Range → List Row
stretch_rows s r = rows_within s (edge s r.low) (edge s r.high)

-- a row's serial, as a number
abbrev pub serial_of : Row → ℕ
serial_of row = row.serial.0
