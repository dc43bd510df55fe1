-- When a table opens.
use Rattle.std.specs.Prelude.{◌≡◌, Bool, ℕ, ◌+◌, ◌&&◌, List, length, nat_le, Option, Some, None, slice_get, if◌then◌else◌}
use Rattle.std.specs.Option.{option_or}
use Rattle.crack_row.specs.declared.Bound.{Bound}
use Rattle.crack_row.specs.declared.limit.Limits.{Limits}
use Rattle.crack_row.specs.declared.refusal.Refusal.{Refusal}
use Rattle.crack_row.specs.declared.refusal.Refusal.TheVariants.{BadWorkerCount}
use Rattle.crack_core.specs.Opening.{splits_fault, limits_fault}
use Rattle.crack_witness.specs.Witnesses.{WorkerState, IsNewWorker, OpenedState}
use Rattle.crack_table.specs.Tables.{TableState}
use Rattle.crack_table.specs.declared.TheConstants.{MOST_WORKERS}

-- why a table with these arguments is refused: for the fault of its splits; else with `BadWorkerCount` if there is no
-- worker or over `MOST_WORKERS`; else for the fault of its limits; `None` if it isn't refused for these
abbrev pub table_fault : List Bound → Limits → ℕ → Option Refusal
table_fault splits limits workers = option_or (splits_fault splits) (option_or (if nat_le 1 workers && nat_le workers MOST_WORKERS then None else Some BadWorkerCount) (limits_fault limits))

-- a table with these arguments, and a lock for each partition
abbrev pub opened_table : List Bound → Limits → ℕ → Bool → TableState
opened_table splits limits workers audited = record { splits = splits; limits = limits; workers = workers; locks = length splits + 1; audited = audited }

-- a new book with its owners, and the table that is to be opened with it
pub record UnnamedState : Type 0 where
  pub opened : OpenedState
  pub table : TableState

-- these are `total` workers at `parts` partitions, numbered from 0 in order, which have seen no entry and received no
-- reply; they keep receipts if there is an audit
pub record AreNewWorkers (total parts : ℕ) (audited : Bool) (workers : List WorkerState) : Type 0 where
  pub count : length workers ≡ total
  pub numbered : (number : ℕ) (worker : WorkerState) → slice_get workers number ≡ Some worker → IsNewWorker number parts audited worker
