-- The gathering of a table's workers: when the table is closed, they are compared with its partitions. Also the
-- totals. `owner` gives each partition's owner in the book, the list of all events.
use Rattle.std.specs.Prelude.{◌≡◌, ◌≢◌, Bool, true, is_some, ℕ, zero, suc, pos, ◌-ℤ◌, ◌+◌, ◌^◌, ◌<◌, ◌⊎◌, ◌==◌, List, length, map, sum_by, All, Some, slice_get, if◌then◌else◌}
use Rattle.std.specs.List.{list_any}
use Rattle.crack_row.specs.declared.Bound.{Bound}
use Rattle.crack_row.specs.declared.limit.Limits.{Limits}
use Rattle.crack_row.specs.declared.refusal.Refusal.{Refusal}
use Rattle.crack_row.specs.declared.refusal.Refusal.TheVariants.{OutOfMemory, StrangeReceipt, WorkersMissing}
use Rattle.crack_plain.specs.Totals.{inserted, deleted}
use Rattle.crack_state.specs.State.{live_rows}
use Rattle.crack_part.specs.Parts.{Part, IsSound}
use Rattle.crack_core.specs.Opening.{AreParts}
use Rattle.crack_core.specs.Routes.{keys_of_part}
use Rattle.crack_witness.specs.Histories.{history_of}
use Rattle.crack_witness.specs.Witnesses.{WorkerState, WitnessedState, IsWhole, HasSeen, MayDiffer}
use Rattle.crack_table.specs.Audits.{histories_of, receipts_of}
use Rattle.crack_table.specs.Cover.{IsFault}
use Rattle.crack_table.specs.Tables.{TableState}

-- the sum of 2 ^ n over the numbers n below the count given last that no worker has, as `number_of` gives them
abbrev pub missing_below : {W : Type 0} → (W → ℕ) → List W → ℕ → ℕ
missing_below number_of workers zero = 0
missing_below number_of workers (suc number) = missing_below number_of workers number + (if list_any (λ worker. number_of worker == number) workers then 0 else 2 ^ number)

-- the partitions themselves, without their histories
abbrev pub held_by : List WitnessedState → List Part
held_by parts = map (λ (w : WitnessedState). w.held) parts

-- the partition has these limits, and the keys that the splits give to the partition with this number
abbrev pub IsTables : List Bound → Limits → ℕ → Part → Type 0
IsTables splits limits part p = (p.keys ≡ keys_of_part splits part) × (p.limits ≡ limits)

-- the totals of the partitions' histories: `answers` commands were answered, `placed` rows inserted and `gone` rows
-- deleted, and `left` rows are live, which is the inserted ones minus the deleted ones
pub record AreHistoryTotals (owner : ℕ → ℕ) (parts : List WitnessedState) (answers placed gone left : ℕ) : Type 0 where
  pub accepted_is : answers ≡ sum_by (λ (w : WitnessedState). length (history_of (owner w.part) w.log)) parts
  pub inserted_is : placed ≡ sum_by (λ (w : WitnessedState). inserted (history_of (owner w.part) w.log)) parts
  pub deleted_is : gone ≡ sum_by (λ (w : WitnessedState). deleted (history_of (owner w.part) w.log)) parts
  pub rows_are : left ≡ sum_by (λ (w : WitnessedState). length (live_rows w.held.store)) parts
  pub held_is : pos left ≡ pos placed -ℤ pos gone

-- The partitions of a table whose workers are gathered. They have these limits and the keys that the splits give
-- (`AreParts`). Each has the number of its place, counts the entries of `count` workers and is whole (`IsWhole`), and
-- `HasSeen` holds of each worker and each partition.
pub record AreGathered (owner : ℕ → ℕ) (splits : List Bound) (limits : Limits) (count : ℕ) (workers : List WorkerState) (parts : List WitnessedState) : Type 0 where
  pub tables : AreParts splits limits (held_by parts)
  pub numbered : (place : ℕ) (w : WitnessedState) → slice_get parts place ≡ Some w → (w.part ≡ place) × (w.workers ≡ count)
  pub whole : All (λ (w : WitnessedState). IsWhole owner w) parts
  pub agree : All (λ (w : WitnessedState). All (λ (a : WorkerState). HasSeen owner a w) workers) parts

-- the partition `w` is the table's at `place`: its number is `place`, it counts the entries of `workers` workers,
-- lists its entries exactly if there is an audit, has these limits, and the keys that the splits give to `place`
pub record IsTablesAt (splits : List Bound) (limits : Limits) (workers : ℕ) (audited : Bool) (place : ℕ) (w : WitnessedState) : Type 0 where
  pub number : w.part ≡ place
  pub counts : w.workers ≡ workers
  pub listed : is_some w.entries ≡ audited
  pub tables : IsTables splits limits place w.held

-- `place` is the first place in `parts` where the partition isn't as `IsTablesAt` says
abbrev pub IsFirstStrange : List Bound → Limits → ℕ → Bool → List WitnessedState → ℕ → Type 0
IsFirstStrange splits limits workers audited parts place =
    (w : WitnessedState) × (slice_get parts place ≡ Some w) × (IsTablesAt splits limits workers audited place w → ⊥)
    × ((earlier : ℕ) (v : WitnessedState) → earlier < place → slice_get parts earlier ≡ Some v → IsTablesAt splits limits workers audited earlier v)

-- each partition is whole (`IsWhole`) and sound (`IsSound`)
abbrev pub AreWhole : (ℕ → ℕ) → List WitnessedState → Type 0
AreWhole owner parts = All (λ (w : WitnessedState). IsWhole owner w × IsSound w.held) parts

-- Why the partitions of a table that was opened with `count` workers may not agree with `workers`: `OutOfMemory`;
-- `StrangeReceipt` at position 0 of the first partition that isn't the table's; or, if all are the table's,
-- `StrangeReceipt` at a fault of `cover`, with an audit, or at a partition that differs from a worker.
abbrev pub MayNotMatch : (ℕ → ℕ) → List Bound → Limits → ℕ → Bool → List WorkerState → Refusal → Type 0
MayNotMatch owner splits limits count audited workers e =
    (e ≡ OutOfMemory)
    ⊎ ((parts : List WitnessedState) × (length parts ≡ length splits + 1) × AreWhole owner parts
    × (((place : ℕ) × (e ≡ StrangeReceipt place 0) × IsFirstStrange splits limits count audited parts place)
    ⊎ (AreParts splits limits (held_by parts)
    × (((audited ≡ true) × (part : ℕ) × (position : ℕ) × (e ≡ StrangeReceipt part position) × IsFault (histories_of owner parts) (receipts_of workers) part position)
    ⊎ MayDiffer owner workers parts e))))

-- why the workers of a table may not be gathered: `WorkersMissing`, with 2 ^ n added up over the missing numbers n, if
-- some are missing (`missing_below`); otherwise as `MayNotMatch` says
abbrev pub MayNotGather : (ℕ → ℕ) → TableState → List WorkerState → Refusal → Type 0
MayNotGather owner table workers e =
    ((missing_below (λ (w : WorkerState). w.worker) workers table.workers ≢ 0) × (e ≡ WorkersMissing (missing_below (λ (w : WorkerState). w.worker) workers table.workers)))
    ⊎ ((missing_below (λ (w : WorkerState). w.worker) workers table.workers ≡ 0) × MayNotMatch owner table.splits table.limits table.workers table.audited workers e)
