-- The effects of the calls of a core and of a plain table. `bounds` and `splits` are as in `Answers`.
use Rattle.std.specs.Prelude.{◌≡◌, ◌≢◌, ℕ, List, None, Some, OnOk, OnErr, IfOk, slice_get, if◌then◌else◌}
use Rattle.crack_row.specs.declared.Bound.{Bound}
use Rattle.crack_plain.specs.Plain.{PlainView, checkpointed_table}
use Rattle.crack_store.specs.Inside.{IsLayoutOf}
use Rattle.crack_part.specs.Parts.{Part, Serves, Spares}
use Rattle.crack_core.specs.Cores.{CoreState}
use Rattle.crack_core.specs.Routes.{keys_of_part}
use Rattle.crack_core.specs.Steps.{Bounds, bounds_from, IsOutcome, IsLayoutOutcome, IsStatisticsOutcome, expected_statistics, IsCheckpointOutcome, tables_of, table_after, changed_at}
use Rattle.crack_core.specs.Jobs.{AtPart, IsCheckpointedAt}
use Rattle.crack_session.specs.Calls.{Call, Asked, Checkpointed, Looked, Measured, Surveyed}

-- The outcome of a call is one that `IsOutcome` allows, or `IsCheckpointOutcome` and so on, for the plain tables
-- `old`; traffic is `None`. The tables are then `new`: only an answered command or checkpoint changes one, its
-- partition's.
abbrev pub rows_lead : Bounds → List Bound → List PlainView → Call → List PlainView → Type 0
rows_lead bounds splits old (Asked part command policy outcome) new =
    IsOutcome bounds (keys_of_part splits part) (slice_get old part) command outcome
    × (new ≡ changed_at (λ table. table_after (if bounds.due table then checkpointed_table table else table) command) old part outcome)
rows_lead bounds splits old (Checkpointed part outcome) new = IsCheckpointOutcome (slice_get old part) outcome × (new ≡ changed_at checkpointed_table old part outcome)
rows_lead bounds splits old (Looked part outcome) new = IsLayoutOutcome (keys_of_part splits part) (slice_get old part) outcome × (new ≡ old)
rows_lead bounds splits old (Measured part outcome) new = IsStatisticsOutcome (slice_get old part) outcome × (new ≡ old)
rows_lead bounds splits old (Surveyed traffic) new = (traffic ≡ None) × (new ≡ old)

-- what a call does to the stores of a core's partitions, from `old` to `new`: a command changes only the store of its
-- partition, as `Serves` says if it is answered, else as `Spares` says; a checkpoint leaves all stores as they are; a
-- layout and statistics are those of the partition that they name, and change nothing
abbrev pub stores_lead : List Part → Call → List Part → Type 0
stores_lead old (Asked part command policy outcome) new =
    ((k : ℕ) → k ≢ part → slice_get new k ≡ slice_get old k)
    × OnOk outcome (AtPart part (λ p q. Serves policy p command q.store) old new) × OnErr outcome (AtPart part (λ p q. Spares policy p command q.store) old new)
stores_lead old (Checkpointed part outcome) new = OnOk outcome (IsCheckpointedAt part old new) × OnErr outcome (new ≡ old)
stores_lead old (Looked part outcome) new = IfOk outcome (λ layout. (p : Part) → slice_get old part ≡ Some p → IsLayoutOf p.store layout) × (new ≡ old)
stores_lead old (Measured part outcome) new = (outcome ≡ expected_statistics (slice_get old part)) × (new ≡ old)
stores_lead old (Surveyed traffic) new = new ≡ old

-- the effect of a call of a core that serves as a desk: on its rows (`rows_lead`), and on its stores (`stores_lead`)
abbrev pub core_leads : CoreState → Call → CoreState → Type 0
core_leads old call new = rows_lead (bounds_from old.limits) old.splits (tables_of old.parts) call (tables_of new.parts) × stores_lead old.parts call new.parts
