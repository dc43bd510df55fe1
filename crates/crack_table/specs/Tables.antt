-- What contracts see of a table, and the outcomes of its calls.
use Rattle.std.specs.Prelude.{Bool, ℕ, ◌≡◌, ◌<◌, ◌≤◌, List, length, Result, Err, IfOk, IfErr, OnOk}
use Rattle.crack_row.specs.Layouts.{IsLayout}
use Rattle.crack_row.specs.Ranges.{Range}
use Rattle.crack_row.specs.declared.Bound.{Bound}
use Rattle.crack_row.specs.declared.limit.Limits.{Limits}
use Rattle.crack_row.specs.declared.layout.Layout.{Layout}
use Rattle.crack_row.specs.declared.refusal.Refusal.{Refusal}
use Rattle.crack_row.specs.declared.refusal.Refusal.TheVariants.{NoSuchPartition, HistoryFull, OutOfMemory}
use Rattle.crack_plain.specs.declared.statistics.Statistics.{Statistics}
use Rattle.crack_part.specs.Parts.{Part, IsSound, statistics_of}

-- where one partition ends and the next begins, the limits of each partition, how many workers and locks there are,
-- and whether the table is audited: then its workers keep receipts
pub record TableState : Type 0 where
  pub splits : List Bound
  pub limits : Limits
  pub workers : ℕ
  pub locks : ℕ
  pub audited : Bool

-- a refusal as a worker receives it: `HistoryFull` carries `limit`, because the partition's own limit is known only
-- under its lock
abbrev pub with_limit : ℕ → Refusal → Refusal
with_limit limit (HistoryFull entries) = HistoryFull limit
with_limit limit e = e

-- One partition of a table is asked for something. The outcome is `NoSuchPartition` if the partition doesn't exist;
-- otherwise any refusal has one of the `Causes`.
pub record AnswersAt {X : Type 0} (table : TableState) (part : ℕ) (Causes : Refusal → Type 0) (result : Result X Refusal) : Type 0 where
  pub there : OnOk result (part ≤ length table.splits)
  pub nowhere : length table.splits < part → result ≡ Err NoSuchPartition
  pub causes : part ≤ length table.splits → IfErr result Causes

-- The layout of one partition is asked for. The outcome is a layout of some range of keys, or a refusal because there
-- is no such partition or no memory is found.
pub record LooksAt (table : TableState) (part : ℕ) (result : Result Layout Refusal) : Type 0 where
  pub equations : IfOk result (λ layout. (ends : Range) × IsLayout ends layout)
  pub at : AnswersAt table part (λ e. e ≡ OutOfMemory) result

-- The statistics of one partition are asked for. The outcome is the statistics of a sound partition, or a refusal
-- because there is no such partition.
pub record MeasuresAt (table : TableState) (part : ℕ) (result : Result Statistics Refusal) : Type 0 where
  pub numbers : IfOk result (λ statistics. (p : Part) × IsSound p × (statistics ≡ statistics_of p))
  pub at : AnswersAt table part (λ e. ⊥) result
