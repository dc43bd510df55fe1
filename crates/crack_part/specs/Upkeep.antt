-- What a partition does if it has accepted as many commands since its last checkpoint as its history may have.
use Rattle.std.specs.Prelude.{ℕ, Bool, true, false, ◌+◌, ◌&&◌, not, nat_le, if◌then◌else◌}
use Rattle.crack_row.specs.declared.command.Command.{Command}
use Rattle.crack_row.specs.declared.limit.Limits.{Limits}
use Rattle.crack_row.specs.declared.limit.Upkeep.{Upkeep}
use Rattle.crack_row.specs.declared.limit.Upkeep.TheVariants.{OnRequest, Automatic}
use Rattle.crack_plain.specs.Plain.{PlainView, checkpointed_table, after}

-- whether upkeep is automatic: checkpoints are made and cells are freed when a command needs it
abbrev pub is_automatic : Upkeep → Bool
is_automatic OnRequest = false
is_automatic Automatic = true

-- whether a command is refused after this many since the last checkpoint: the limit or more, and upkeep is on request
abbrev pub is_full : Limits → ℕ → Bool
is_full limits since = nat_le limits.history since && not (is_automatic limits.upkeep)

-- whether a checkpoint is due after this many commands since the last one: the limit or more, with automatic upkeep
abbrev pub is_due : Limits → ℕ → Bool
is_due limits since = nat_le limits.history since && is_automatic limits.upkeep

-- the plain table that answers the next command: the table after a checkpoint if one is due, else the same table
abbrev pub upkept : Limits → PlainView → PlainView
upkept limits table = if is_due limits table.since then checkpointed_table table else table

-- the plain table after it answered a command: after a checkpoint if one is due, with the command's change, if any,
-- and with the command counted as one more since the last checkpoint
abbrev pub answered : Limits → PlainView → Command → PlainView
answered limits table command = record { state = after table.state command; checkpointed = (upkept limits table).checkpointed; since = (upkept limits table).since + 1 }
