-- Upkeep makes checkpoints, and nothing else.
use Rattle.std.specs.Prelude.{◌≡◌, ℕ, Bool, true, false, cond, ◌&&◌, ◌==◌, List, [], ◌∷◌, ◌++◌, length, nat_le, Result, Ok, Err, if◌then◌else◌}
use Rattle.std.proofs.Common.{ap, refl, sym, ◌∙◌}
use Rattle.std.proofs.lemmas.Bool.{eq-eqb}
use Rattle.crack_row.specs.declared.command.Command.{Command}
use Rattle.crack_row.specs.declared.limit.Limits.{Limits}
use Rattle.crack_row.specs.declared.refusal.Refusal.{Refusal}
use Rattle.crack_plain.specs.Plain.{PlainView, checkpointed_table}
use Rattle.crack_part.specs.Upkeep.{is_due}
use Rattle.crack_core.specs.Steps.{bounds_from, table_after, upkept_by}
use Rattle.crack_core.specs.Jobs.{after_job, after_jobs}
use Rattle.crack_core.specs.Upkeep.{on_request, is_kept_up, with_checkpoints, with_checkpoints_made, IsKeptUp}
use Rattle.crack_core.specs.declared.step.Job.{Job}
use Rattle.crack_core.specs.declared.step.Job.TheVariants.{Perform, Checkpoint}
use Rattle.crack_core.specs.declared.step.Done.{Done}
use Rattle.crack_core.specs.declared.step.Done.TheVariants.{Replied, CheckpointMade}

none-due : (b : Bool) → (b && false) ≡ false
none-due true = refl
none-due false = refl

-- if upkeep is on request, no checkpoint is due
upkept-on_request : (limits : Limits) (table : PlainView) → upkept_by (bounds_from (on_request limits)) table ≡ table
upkept-on_request limits table = ap (λ (b : Bool). cond b (checkpointed_table table) table) (none-due (nat_le limits.history table.since))

-- a step of a partition's own, or of another, after the checkpoint that upkeep makes, or without one
command-kept : (own due : Bool) (table : PlainView) (c : Command) → cond own (table_after (cond due (checkpointed_table table) table) c) table ≡ cond (own && due) (cond own (table_after (checkpointed_table table) c) (checkpointed_table table)) (cond own (table_after table c) table)
command-kept true true table c = refl
command-kept true false table c = refl
command-kept false due table c = refl

-- a partition's plain table after one job
one : (limits : Limits) (part : ℕ) (job : Job) (result : Result Done Refusal) (table : PlainView) → after_job limits part job result table ≡ cond (is_kept_up limits part job result table) (after_job (on_request limits) part job result (checkpointed_table table)) (after_job (on_request limits) part job result table)
one limits part (Perform step) (Ok (Replied reply)) table =
    rw (upkept-on_request limits table, upkept-on_request limits (checkpointed_table table)) (command-kept (step.part == part) (is_due limits table.since) table step.command)
one limits part (Perform step) (Ok (CheckpointMade count)) table = refl
one limits part (Perform step) (Err e) table = refl
one limits part (Checkpoint number) (Ok (Replied reply)) table = refl
one limits part (Checkpoint number) (Ok (CheckpointMade count)) table = refl
one limits part (Checkpoint number) (Err e) table = refl

-- a checkpoint of a partition's own is one of that partition
own-checkpoint : (limits : Limits) (part count : ℕ) (table : PlainView) → after_job limits part (Checkpoint part) (Ok (CheckpointMade count)) table ≡ checkpointed_table table
own-checkpoint limits part count table = ap (λ (b : Bool). cond b (checkpointed_table table) table) (eq-eqb part part refl)

-- a job, and the checkpoint before it where upkeep made one, and then others
step-by : (limits : Limits) (part : ℕ) (job : Job) (result : Result Done Refusal) (table : PlainView) (jobs : List Job) (results : List (Result Done Refusal)) (b : Bool) → after_jobs (on_request limits) part ((if b then Checkpoint part ∷ job ∷ [] else job ∷ []) ++ jobs) ((if b then Ok (CheckpointMade table.since) ∷ result ∷ [] else result ∷ []) ++ results) table ≡ after_jobs (on_request limits) part jobs results (cond b (after_job (on_request limits) part job result (checkpointed_table table)) (after_job (on_request limits) part job result table))
step-by limits part job result table jobs results true = ap (λ (t : PlainView). after_jobs (on_request limits) part jobs results (after_job (on_request limits) part job result t)) (own-checkpoint (on_request limits) part table.since table)
step-by limits part job result table jobs results false = refl

pub kept-up : (limits : Limits) (part : ℕ) (jobs : List Job) (results : List (Result Done Refusal)) (table : PlainView) → IsKeptUp limits part jobs results table
kept-up limits part [] results table = refl
kept-up limits part (job ∷ jobs) [] table = refl
kept-up limits part (job ∷ jobs) (result ∷ results) table =
    let after = after_job limits part job result table in
    let rest = with_checkpoints limits part jobs results after in
    let came = with_checkpoints_made limits part jobs results after in
    kept-up limits part jobs results after
    ∙ ap (after_jobs (on_request limits) part rest came) (one limits part job result table)
    ∙ sym (step-by limits part job result table rest came (is_kept_up limits part job result table))
