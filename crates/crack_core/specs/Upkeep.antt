-- The checkpoints that automatic upkeep makes, as jobs. A job is a step (a command to a partition) or a checkpoint.
use Rattle.std.specs.Prelude.{◌≡◌, ℕ, Bool, false, ◌&&◌, ◌==◌, List, [], ◌∷◌, ◌++◌, Result, Ok, if◌then◌else◌}
use Rattle.crack_row.specs.declared.limit.Limits.{Limits}
use Rattle.crack_row.specs.declared.limit.Upkeep.TheVariants.{OnRequest}
use Rattle.crack_row.specs.declared.refusal.Refusal.{Refusal}
use Rattle.crack_plain.specs.Plain.{PlainView}
use Rattle.crack_part.specs.Upkeep.{is_due}
use Rattle.crack_core.specs.Jobs.{after_job, after_jobs}
use Rattle.crack_core.specs.declared.step.Job.{Job}
use Rattle.crack_core.specs.declared.step.Job.TheVariants.{Perform, Checkpoint}
use Rattle.crack_core.specs.declared.step.Done.{Done}
use Rattle.crack_core.specs.declared.step.Done.TheVariants.{Replied, CheckpointMade}

-- these limits, but with upkeep on request: a partition that reaches a limit only refuses the command
abbrev pub on_request : Limits → Limits
on_request limits = record limits { upkeep = OnRequest }

-- whether upkeep made a checkpoint of the partition with this number for a job with this outcome: the job was an
-- answered step of this partition, and by its plain table before the job, `table`, a checkpoint was due (`is_due`)
abbrev pub is_kept_up : Limits → ℕ → Job → Result Done Refusal → PlainView → Bool
is_kept_up limits part (Perform step) (Ok (Replied reply)) table = step.part == part && is_due limits table.since
is_kept_up limits part job result table = false

-- these jobs, with each checkpoint that upkeep made of the partition with this number inserted as a job right before
-- its step; `results` are the jobs' outcomes, and the plain table is the partition's before the first job
abbrev pub with_checkpoints : Limits → ℕ → List Job → List (Result Done Refusal) → PlainView → List Job
with_checkpoints limits part (job ∷ jobs) (result ∷ results) table =
    (if is_kept_up limits part job result table then Checkpoint part ∷ job ∷ [] else job ∷ []) ++ with_checkpoints limits part jobs results (after_job limits part job result table)
with_checkpoints limits part _ _ table = []

-- the outcomes of the jobs that `with_checkpoints` gives for the same arguments: `results`, and, right before the
-- outcome of each step with an inserted checkpoint, the outcome of this checkpoint
abbrev pub with_checkpoints_made : Limits → ℕ → List Job → List (Result Done Refusal) → PlainView → List (Result Done Refusal)
with_checkpoints_made limits part (job ∷ jobs) (result ∷ results) table =
    (if is_kept_up limits part job result table then Ok (CheckpointMade table.since) ∷ result ∷ [] else result ∷ []) ++ with_checkpoints_made limits part jobs results (after_job limits part job result table)
with_checkpoints_made limits part _ _ table = []

-- these jobs with these outcomes, done under these limits, lead the partition with this number from this plain table
-- to the same one as do the jobs of `with_checkpoints`, done with upkeep on request
abbrev pub IsKeptUp : Limits → ℕ → List Job → List (Result Done Refusal) → PlainView → Type 0
IsKeptUp limits part jobs results table = after_jobs limits part jobs results table ≡ after_jobs (on_request limits) part (with_checkpoints limits part jobs results table) (with_checkpoints_made limits part jobs results table) table
