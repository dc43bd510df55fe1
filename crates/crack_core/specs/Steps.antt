-- The expected answers to a step and to a checkpoint, and what each leaves of the plain rows. `bounds` is what the
-- table's limits mean for a partition (`Bounds`), `splits` are the bounds between the partitions' keys, `tables` the
-- plain tables of all partitions before the call, and `table` that of one, `None` if there is no such partition.
use Rattle.std.specs.Prelude.{◌≡◌, ◌⊎◌, ℕ, ◌+◌, ◌≤◌, Bool, true, false, List, length, map, Option, None, Some, Result, Ok, Err, IsOk, IsSomeAnd, is_some, slice_get, slice_set, slice_index_or, sum_by, if◌then◌else◌}
use Rattle.std.specs.Option.{option_map_or}
use Rattle.std.specs.Result.{result_map_both}
use Rattle.crack_row.specs.Ranges.{Range}
use Rattle.crack_row.specs.Commands.{key_of}
use Rattle.crack_row.specs.Layouts.{IsLayout}
use Rattle.crack_row.specs.declared.Bound.{Bound}
use Rattle.crack_row.specs.declared.limit.Limits.{Limits}
use Rattle.crack_row.specs.declared.command.Command.{Command}
use Rattle.crack_row.specs.declared.command.Reply.{Reply}
use Rattle.crack_row.specs.declared.layout.Layout.{Layout}
use Rattle.crack_row.specs.declared.refusal.Refusal.{Refusal}
use Rattle.crack_row.specs.declared.refusal.Refusal.TheVariants.{NoSuchPartition, OutOfMemory, NoCell}
use Rattle.crack_plain.specs.Plain.{PlainView, accepted_of, checkpointed_table, no_rows, reply_to, after}
use Rattle.crack_plain.specs.Watching.{AreNumbersOf}
use Rattle.crack_plain.specs.declared.statistics.Statistics.{Statistics}
use Rattle.crack_part.specs.Parts.{Part, table_of, statistics_of}
use Rattle.crack_part.specs.Refusals.{stopped_by, first_cause}
use Rattle.crack_part.specs.Upkeep.{is_automatic, is_due}
use Rattle.crack_core.specs.Routes.{keys_of_part}

-- What a table's limits mean for a partition, by its plain table; these aren't bounds of keys. `stop` is why it
-- accepts no more commands, or `None`; `cells` is how many cells its rows may take; `taken` is how many are taken at
-- most when none is free and upkeep frees none; `due` is whether a checkpoint is made before the next command.
pub record Bounds : Type 0 where
  pub stop : PlainView → Option Refusal
  pub cells : ℕ
  pub taken : PlainView → ℕ
  pub due : PlainView → Bool

-- how many cells can be taken at most when none is free and upkeep frees none: as many as there are rows if upkeep is
-- automatic, else as many as commands were accepted
abbrev pub taken_where_full : Limits → PlainView → ℕ
taken_where_full limits table = if is_automatic limits.upkeep then length table.state.rows else accepted_of table

-- the `Bounds` of each partition with these limits
abbrev pub bounds_from : Limits → Bounds
bounds_from limits = record { stop = stopped_by limits; cells = limits.cells; taken = taken_where_full limits; due = λ table. is_due limits table.since }

-- an outcome with a function applied to its value; a refusal is unchanged
abbrev pub mapped : {X Y : Type 0} → (X → Y) → Result X Refusal → Result Y Refusal
mapped f outcome = result_map_both f (λ e. e) outcome

-- the refusal, if there is one, else the value
abbrev pub unless : {X : Type 0} → Option Refusal → X → Result X Refusal
unless refusal x = option_map_or Err refusal (Ok x)

-- what a partition with these bounds, keys and plain table answers if cells and memory are found: `KeyOutside` for a
-- key not in `keys`, else the refusal `stop`, if any, else the table's reply; `NoSuchPartition` without a table
abbrev pub expected : Bounds → Range → Option PlainView → Command → Result Reply Refusal
expected bounds keys None command = Err NoSuchPartition
expected bounds keys (Some table) command = unless (first_cause keys (bounds.stop table) false command) (reply_to table.state command)

-- a partition may lack a cell for a command: there is a plain table, the command has a key, and at least as many cells
-- as the bounds allow can be taken when none is free
abbrev pub MayLackCell : Bounds → Option PlainView → Command → Type 0
MayLackCell bounds table command = IsSomeAnd table (λ (t : PlainView). (is_some (key_of command) ≡ true) × (bounds.cells ≤ bounds.taken t))

-- the outcome of asking the partition with these bounds, keys and plain table a command: the one that `expected` gives
-- or, in place of a reply, `OutOfMemory`, or `NoCell` if `MayLackCell` holds
abbrev pub IsOutcome : Bounds → Range → Option PlainView → Command → Result Reply Refusal → Type 0
IsOutcome bounds keys table command outcome = (outcome ≡ expected bounds keys table command) ⊎ (IsOk (expected bounds keys table command) × ((outcome ≡ Err OutOfMemory) ⊎ ((outcome ≡ Err NoCell) × MayLackCell bounds table command)))

-- `IsOutcome` holds for the partition with this number, among partitions with these splits and plain tables
abbrev pub IsOutcomeAt : Bounds → List Bound → List PlainView → ℕ → Command → Result Reply Refusal → Type 0
IsOutcomeAt bounds splits tables part command outcome = IsOutcome bounds (keys_of_part splits part) (slice_get tables part) command outcome

-- the plain table of a partition without rows that has accepted no command
abbrev pub fresh_table : PlainView
fresh_table = record { state = no_rows; checkpointed = 0; since = 0 }

-- a plain table after an answered command: the rows that the command leaves, and one more command counted
abbrev pub table_after : PlainView → Command → PlainView
table_after table command = record { state = after table.state command; checkpointed = table.checkpointed; since = table.since + 1 }

-- the plain table to which the next command is added: this one, after a checkpoint if one is due by these bounds
abbrev pub upkept_by : Bounds → PlainView → PlainView
upkept_by bounds table = if bounds.due table then checkpointed_table table else table

-- `tables` after a call on the partition with this number: only if it is answered, `change` is applied to its table
abbrev pub changed_at : {X : Type 0} → (PlainView → PlainView) → List PlainView → ℕ → Result X Refusal → List PlainView
changed_at change tables part (Ok x) = slice_set tables part (change (slice_index_or tables part fresh_table))
changed_at change tables part (Err e) = tables

-- the plain tables after the partition with this number is asked this command, with this outcome: if it is answered,
-- it is added to that partition's table, after a checkpoint if one is due by these bounds; else all are unchanged
abbrev pub tables_after : Bounds → List PlainView → ℕ → Command → Result Reply Refusal → List PlainView
tables_after bounds tables part command outcome = changed_at (λ table. table_after (upkept_by bounds table) command) tables part outcome

-- the outcome of asking a partition with these keys and this plain table for its layout: `NoSuchPartition` if there is
-- no plain table, else `OutOfMemory`, or any layout of these keys with as many rows as the plain table has
abbrev pub IsLayoutOutcome : Range → Option PlainView → Result Layout Refusal → Type 0
IsLayoutOutcome keys None outcome = outcome ≡ Err NoSuchPartition
IsLayoutOutcome keys (Some table) (Ok layout) = IsLayout keys layout × (layout.rows ≡ length table.state.rows)
IsLayoutOutcome keys (Some table) (Err e) = e ≡ OutOfMemory

-- the outcome of asking a partition for its statistics: `NoSuchPartition` if there is no plain table, else statistics
-- whose number of rows and numbers of commands are those of the plain table, never a refusal
abbrev pub IsStatisticsOutcome : Option PlainView → Result Statistics Refusal → Type 0
IsStatisticsOutcome None outcome = outcome ≡ Err NoSuchPartition
IsStatisticsOutcome (Some table) (Ok statistics) = AreNumbersOf table statistics
IsStatisticsOutcome (Some table) (Err e) = ⊥

-- the statistics of a partition, or `NoSuchPartition` if there is no such partition
abbrev pub expected_statistics : Option Part → Result Statistics Refusal
expected_statistics None = Err NoSuchPartition
expected_statistics (Some part) = Ok (statistics_of part)

-- the outcome of asking a partition for a checkpoint: `NoSuchPartition` if there is no plain table, else how many
-- commands the partition had accepted since its previous one, or `OutOfMemory`
abbrev pub IsCheckpointOutcome : Option PlainView → Result ℕ Refusal → Type 0
IsCheckpointOutcome None outcome = outcome ≡ Err NoSuchPartition
IsCheckpointOutcome (Some table) outcome = (outcome ≡ Ok table.since) ⊎ (outcome ≡ Err OutOfMemory)

-- the outcome of a checkpoint that takes no memory: `NoSuchPartition` if there is no plain table, else how many
-- commands the partition had accepted since its previous one
abbrev pub expected_checkpoint : Option PlainView → Result ℕ Refusal
expected_checkpoint None = Err NoSuchPartition
expected_checkpoint (Some table) = Ok table.since

-- the plain tables of partitions
abbrev pub tables_of : List Part → List PlainView
tables_of parts = map (λ (part : Part). table_of part) parts

-- how many commands these partitions have accepted in total since they were opened
abbrev pub accepted_by : List Part → ℕ
accepted_by parts = sum_by (λ (part : Part). accepted_of (table_of part)) parts
