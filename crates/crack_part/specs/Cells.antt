-- Which changes lack a cell, and how upkeep frees cells. The change is that of a command, `None` if it makes none.
use Rattle.std.specs.Prelude.{ℕ, Bool, true, false, ◌&&◌, ◌==◌, not, length, Option, Some, nat_le, unwrap_or, option_map}
use Rattle.crack_row.specs.declared.command.Change.{Change}
use Rattle.crack_row.specs.declared.command.Change.TheVariants.{Place, Rewrite}
use Rattle.crack_row.specs.declared.limit.Limits.{Limits}
use Rattle.crack_state.specs.State.{State}
use Rattle.crack_state.specs.Points.{pending_by}
use Rattle.crack_part.specs.Upkeep.{is_automatic}

-- whether a change takes one more cell: true for an insertion, and for an update of a row of the column; else false
abbrev pub takes_cell : State → Option Change → Bool
takes_cell s (Some (Place key payload)) = true
takes_cell s (Some (Rewrite serial key payload)) = unwrap_or (option_map not (pending_by s serial.0)) false
takes_cell s _ = false

-- whether a change takes a cell while no cell is free and there are at least `most` cells
abbrev pub lacks_cell : ℕ → State → Option Change → Bool
lacks_cell most s change = nat_le most (length s.cells) && ((length s.free == 0) && takes_cell s change)

-- whether upkeep may free cells: it is automatic, and deletions are pending
abbrev pub may_clear : Limits → State → Bool
may_clear limits s = is_automatic limits.upkeep && not (length s.pending_out == 0)

-- whether a change lacks a cell under these limits (`lacks_cell`), and upkeep may free none (`may_clear`)
abbrev pub is_without_cell : Limits → State → Option Change → Bool
is_without_cell limits s change = lacks_cell limits.cells s change && not (may_clear limits s)

-- whether a change lacks a cell under these limits (`lacks_cell`), and upkeep may free some (`may_clear`)
abbrev pub is_cleared_first : Limits → State → Option Change → Bool
is_cleared_first limits s change = lacks_cell limits.cells s change && may_clear limits s
