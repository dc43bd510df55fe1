-- The expected outcomes of jobs, done one after the other, and what they leave. A job is a step (a command to a
-- partition) or a checkpoint. `old` are the partitions, or their plain tables, before the jobs, and `new` those after.
use Rattle.std.specs.Prelude.{◌≡◌, ◌≢◌, ℕ, ◌==◌, List, [], ◌∷◌, length, take, fold, Option, Some, Result, Ok, OnOk, OnErr, IfErr, slice_get, if◌then◌else◌}
use Rattle.std.specs.List.{zip}
use Rattle.std.specs.Option.{option_map}
use Rattle.crack_row.specs.declared.Bound.{Bound}
use Rattle.crack_row.specs.declared.limit.Limits.{Limits}
use Rattle.crack_row.specs.declared.command.Reply.{Reply}
use Rattle.crack_row.specs.declared.refusal.Refusal.{Refusal}
use Rattle.crack_row.specs.declared.refusal.Refusal.TheVariants.{OutOfMemory}
use Rattle.crack_plain.specs.Plain.{PlainView, checkpointed_table}
use Rattle.crack_part.specs.Parts.{Part, Serves, Spares, checkpointed_part}
use Rattle.crack_core.specs.Routes.{keys_of_part}
use Rattle.crack_core.specs.Opening.{AreParts}
use Rattle.crack_core.specs.Steps.{Bounds, bounds_from, mapped, IsOutcome, expected_checkpoint, table_after, upkept_by, tables_of, tables_after}
use Rattle.crack_core.specs.declared.step.Step.{Step}
use Rattle.crack_core.specs.declared.step.Job.{Job}
use Rattle.crack_core.specs.declared.step.Job.TheVariants.{Perform, Checkpoint}
use Rattle.crack_core.specs.declared.step.Done.{Done}
use Rattle.crack_core.specs.declared.step.Done.TheVariants.{Replied, CheckpointMade}

-- the plain table of the partition with this number after a job: an answered step of it adds its command, after a
-- checkpoint if one is due by these limits; an answered checkpoint of it does what `checkpointed_table` says; any
-- other job leaves it unchanged
abbrev pub after_job : Limits → ℕ → Job → Result Done Refusal → PlainView → PlainView
after_job limits part (Perform step) (Ok (Replied reply)) table = if step.part == part then table_after (upkept_by (bounds_from limits) table) step.command else table
after_job limits part (Checkpoint number) (Ok (CheckpointMade count)) table = if number == part then checkpointed_table table else table
after_job limits part job result table = table

-- the plain table of the partition with this number after these jobs, in order, with these outcomes
abbrev pub after_jobs : Limits → ℕ → List Job → List (Result Done Refusal) → PlainView → PlainView
after_jobs limits part jobs results table = fold (λ table done. after_job limits part done.0 done.1 table) table (zip jobs results)

-- `new` has as many plain tables as `old`, each the one that `after_jobs` gives for the one in `old` with its number
abbrev pub KeepsJobs : Limits → List PlainView → List Job → List (Result Done Refusal) → List PlainView → Type 0
KeepsJobs limits old jobs results new = (part : ℕ) → slice_get new part ≡ option_map (after_jobs limits part jobs results) (slice_get old part)

-- the relation holds between the partitions with this number in the lists `old` and `new`, if both lists have one
abbrev pub AtPart : ℕ → (Part → Part → Type 0) → List Part → List Part → Type 0
AtPart part Holds old new = (p q : Part) → slice_get old part ≡ Some p → slice_get new part ≡ Some q → Holds p q

-- what a step with this outcome does to the partitions: all satisfy `AreParts` afterwards, and those that it doesn't
-- ask are unchanged; if it is answered, the asked one's plain table changes as `tables_after` says, and its store as
-- `Serves` says; a refusal changes no plain table, and only `OutOfMemory` may change the store, as `Spares` says
pub record DoesStep (splits : List Bound) (limits : Limits) (step : Step) (result : Result Reply Refusal) (old new : List Part) : Type 0 where
  pub parts : AreParts splits limits new
  pub kept : tables_of new ≡ tables_after (bounds_from limits) (tables_of old) step.part step.command result
  pub others : (k : ℕ) → k ≢ step.part → slice_get new k ≡ slice_get old k
  pub store : OnOk result (AtPart step.part (λ p q. Serves step.policy p step.command q.store) old new)
  pub spared : OnErr result (AtPart step.part (λ p q. Spares step.policy p step.command q.store) old new)
  pub same : IfErr result (λ e. e ≢ OutOfMemory → new ≡ old)

-- the outcome of a job, where `table` gives each partition's plain table by its number: that of a step is one that
-- `IsOutcome` allows; that of a checkpoint is the one that `expected_checkpoint` gives
abbrev pub IsJobOutcome : Bounds → List Bound → (ℕ → Option PlainView) → Job → Result Done Refusal → Type 0
IsJobOutcome bounds splits table (Perform step) result = (outcome : Result Reply Refusal) × (result ≡ mapped Replied outcome) × IsOutcome bounds (keys_of_part splits step.part) (table step.part) step.command outcome
IsJobOutcome bounds splits table (Checkpoint part) result = result ≡ mapped CheckpointMade (expected_checkpoint (table part))

-- `results` has an outcome for each job, one that `IsJobOutcome` allows for the plain table of the job's partition:
-- the one in `tables`, as the partition's own earlier jobs left it; neither policies nor other partitions' jobs matter
pub record AreExpectedOutcomes (limits : Limits) (splits : List Bound) (tables : List PlainView) (jobs : List Job) (results : List (Result Done Refusal)) : Type 0 where
  pub each : length results ≡ length jobs
  pub outcomes : (k : ℕ) (job : Job) (result : Result Done Refusal) → slice_get jobs k ≡ Some job → slice_get results k ≡ Some result →
      IsJobOutcome (bounds_from limits) splits (λ part. option_map (after_jobs limits part (take k jobs) (take k results)) (slice_get tables part)) job result

-- the partition with this number, if there is one, makes a checkpoint, and the others are unchanged
abbrev pub IsCheckpointedAt : ℕ → List Part → List Part → Type 0
IsCheckpointedAt number old new = (k : ℕ) → slice_get new k ≡ option_map (λ part. if number == k then checkpointed_part part else part) (slice_get old k)

-- what a checkpoint of the partition `number` with this outcome does to the partitions: all satisfy `AreParts`
-- afterwards; if it is answered, that partition makes it, and the others are unchanged; a refusal changes nothing
pub record Checkpoints (splits : List Bound) (limits : Limits) (number : ℕ) (result : Result ℕ Refusal) (old new : List Part) : Type 0 where
  pub parts : AreParts splits limits new
  pub checkpoints : OnOk result (IsCheckpointedAt number old new)
  pub same : OnErr result (new ≡ old)

-- what a job with this outcome does to partitions: what `DoesStep` says of a step, or `Checkpoints` of a checkpoint
abbrev pub Does : List Bound → Limits → Job → Result Done Refusal → List Part → List Part → Type 0
Does splits limits (Perform step) result old new = (outcome : Result Reply Refusal) × (result ≡ mapped Replied outcome) × DoesStep splits limits step outcome old new
Does splits limits (Checkpoint part) result old new = (outcome : Result ℕ Refusal) × (result ≡ mapped CheckpointMade outcome) × Checkpoints splits limits part outcome old new

-- these jobs are done in order, as `Does` says of each, with these outcomes, one for each
abbrev pub DoesAll : List Bound → Limits → List Job → List (Result Done Refusal) → List Part → List Part → Type 0
DoesAll splits limits [] [] old new = new ≡ old
DoesAll splits limits (job ∷ jobs) (result ∷ results) old new = (between : List Part) × Does splits limits job result old between × DoesAll splits limits jobs results between new
DoesAll splits limits _ _ old new = ⊥
