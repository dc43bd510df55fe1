-- Why a partition refuses a command, whatever memory there is.
use Rattle.std.specs.Prelude.{Bool, true, Option, None, Some, nat_le, if◌then◌else◌}
use Rattle.std.specs.Option.{option_or}
use Rattle.crack_row.specs.Commands.{change_of, key_of}
use Rattle.crack_row.specs.Ranges.{Range, is_in}
use Rattle.crack_row.specs.declared.Key.{Key}
use Rattle.crack_row.specs.declared.command.Command.{Command}
use Rattle.crack_row.specs.declared.limit.Limits.{Limits}
use Rattle.crack_row.specs.declared.refusal.Refusal.{Refusal}
use Rattle.crack_row.specs.declared.refusal.Refusal.TheVariants.{KeyOutside, HistoryFull, NoCell, LifeOver}
use Rattle.crack_plain.specs.Plain.{PlainView, accepted_of}
use Rattle.crack_part.specs.Parts.{Part, table_of}
use Rattle.crack_part.specs.Upkeep.{is_full}
use Rattle.crack_part.specs.Cells.{is_without_cell}

-- whether a command's key is one of `keys`; true if the command has no key
abbrev pub is_key_in : Range → Option Key → Bool
is_key_in keys None = true
is_key_in keys (Some key) = is_in keys key.0

-- why a partition with these limits and this plain table accepts no more commands: `HistoryFull` if its history is
-- full (`is_full`); else `LifeOver` if it accepted as many in total as the life allows; else `None`
abbrev pub stopped_by : Limits → PlainView → Option Refusal
stopped_by limits table = if is_full limits table.since then Some (HistoryFull limits.history) else (if nat_le limits.life (accepted_of table) then Some LifeOver else None)

-- the first of these causes to refuse a command, or none: `KeyOutside` if it has a key that is none of `keys`; `stop`,
-- if there is one, for which the partition accepts no more commands; `NoCell` if `lacks` is true
abbrev pub first_cause : Range → Option Refusal → Bool → Command → Option Refusal
first_cause keys stop lacks command = if is_key_in keys (key_of command) then option_or stop (if lacks then Some NoCell else None) else Some KeyOutside

-- why a partition refuses a command whatever memory there is, by `first_cause`; `None` if it doesn't
abbrev pub refusal_of : Part → Command → Option Refusal
refusal_of part command = first_cause part.keys (stopped_by part.limits (table_of part)) (is_without_cell part.limits part.store (change_of command)) command
