-- What follows from jobs, one after the other: of steps, and of checkpoints between them.
use Rattle.std.specs.Prelude.{◌≡◌, ◌≢◌, ℕ, ◌+◌, ◌<◌, ◌≤◌, ◌==◌, Bool, true, false, cond, List, [], ◌∷◌, ◌++◌, length, take, Option, None, Some, Result, Ok, Err, IfOk, IfErr, OnOk, OnErr, ◌⊎◌, slice_get, if◌then◌else◌}
use Rattle.std.specs.Option.{option_map}
use Rattle.std.proofs.Common.{get_or, set, arith, ap, refl, sym, subst, ◌∙◌, ⊎_elim, inl, inr, length-append}
use Rattle.std.proofs.lemmas.Bool.{eq-eqb, ne_eqb, cases_eq, cases_lt}
use Rattle.std.proofs.lemmas.Option.{slice_get-map, slice_get-get_or, slice_get_past, slice_get_within}
use Rattle.std.proofs.lemmas.List.{map-set, set-get_or, get_or-map, length-map, take-append-le, take_all}
use Rattle.std.proofs.lemmas.List.Sums.{sum_by-set}
use Rattle.crack_row.specs.declared.Bound.{Bound}
use Rattle.crack_row.specs.declared.limit.Limits.{Limits}
use Rattle.crack_row.specs.declared.refusal.Refusal.{Refusal}
use Rattle.crack_row.specs.declared.refusal.Refusal.TheVariants.{NoSuchPartition, OutOfMemory}
use Rattle.crack_plain.specs.Plain.{PlainView, accepted_of, checkpointed_table}
use Rattle.crack_part.specs.Parts.{Part, table_of, checkpointed_part}
use Rattle.crack_core.specs.declared.step.Job.{Job}
use Rattle.crack_core.specs.declared.step.Job.TheVariants.{Perform, Checkpoint}
use Rattle.crack_core.specs.declared.step.Done.{Done}
use Rattle.crack_core.specs.declared.step.Done.TheVariants.{CheckpointMade}
use Rattle.crack_core.specs.Routes.{keys_of_part}
use Rattle.crack_core.specs.Steps.{Bounds, bounds_from, mapped, fresh_table, tables_of, accepted_by, IsOutcome, IsCheckpointOutcome, expected_checkpoint, changed_at}
use Rattle.crack_core.specs.Jobs.{after_job, after_jobs, KeepsJobs, IsJobOutcome, AreExpectedOutcomes, IsCheckpointedAt, Does, DoesAll}
use Rattle.crack_core.proofs.StepLaws.{get-last, get-front, get-set_same, get-set_other}

-- one more job
after_jobs-push : (limits : Limits) (part : ℕ) (jobs : List Job) (results : List (Result Done Refusal)) (job : Job) (result : Result Done Refusal) (table : PlainView) → length results ≡ length jobs → after_jobs limits part (jobs ++ job ∷ []) (results ++ result ∷ []) table ≡ after_job limits part job result (after_jobs limits part jobs results table)
after_jobs-push limits part [] [] job result table same = refl
after_jobs-push limits part [] (r ∷ results) job result table same = absurd (omega (arith, same))
after_jobs-push limits part (j ∷ jobs) [] job result table same = absurd (omega (arith, same))
after_jobs-push limits part (j ∷ jobs) (r ∷ results) job result table same = after_jobs-push limits part jobs results job result (after_job limits part j r table) (omega (arith, same))

pub KeepsJobs-push : (limits : Limits) (old now new : List PlainView) (jobs : List Job) (results : List (Result Done Refusal)) (job : Job) (result : Result Done Refusal) → length results ≡ length jobs → KeepsJobs limits old jobs results now → KeepsJobs limits now (job ∷ []) (result ∷ []) new → KeepsJobs limits old (jobs ++ job ∷ []) (results ++ result ∷ []) new
KeepsJobs-push limits old now new jobs results job result same before last = λ part.
    last part ∙ ap (option_map (after_jobs limits part (job ∷ []) (result ∷ []))) (before part) ∙ joined part (slice_get old part)
  where
    joined : (part : ℕ) (o : Option PlainView) → option_map (after_jobs limits part (job ∷ []) (result ∷ [])) (option_map (after_jobs limits part jobs results) o) ≡ option_map (after_jobs limits part (jobs ++ job ∷ []) (results ++ result ∷ [])) o
    joined part None = refl
    joined part (Some table) = ap Some (sym (after_jobs-push limits part jobs results job result table same))

-- no job
option-same : (o : Option PlainView) → o ≡ option_map (λ (table : PlainView). table) o
option-same None = refl
option-same (Some table) = refl

pub KeepsJobs-nil : (limits : Limits) (tables : List PlainView) → KeepsJobs limits tables [] [] tables
KeepsJobs-nil limits tables = λ part. option-same (slice_get tables part)

-- a job that was refused
refused-table : (limits : Limits) (part : ℕ) (job : Job) (e : Refusal) (table : PlainView) → after_job limits part job (Err e) table ≡ table
refused-table limits part (Perform step) e table = refl
refused-table limits part (Checkpoint number) e table = refl

pub KeepsJobs-refused : (limits : Limits) (tables : List PlainView) (job : Job) (e : Refusal) → KeepsJobs limits tables (job ∷ []) (Err e ∷ []) tables
KeepsJobs-refused limits tables job e = λ part. by_table part (slice_get tables part)
  where
    by_table : (part : ℕ) (o : Option PlainView) → o ≡ option_map (after_jobs limits part (job ∷ []) (Err e ∷ [])) o
    by_table part None = refl
    by_table part (Some table) = ap Some (sym (refused-table limits part job e table))

-- a checkpoint of a partition is one of its plain table
pub KeepsJobs-checkpoint : (limits : Limits) (old new : List Part) (number count : ℕ) → IsCheckpointedAt number old new → KeepsJobs limits (tables_of old) (Checkpoint number ∷ []) (Ok (CheckpointMade count) ∷ []) (tables_of new)
KeepsJobs-checkpoint limits old new number count checkpoints = λ part.
    slice_get-map (λ (p : Part). table_of p) new part ∙ ap (option_map (λ (p : Part). table_of p)) (checkpoints part) ∙ by_part part (slice_get old part) ∙ ap (option_map (after_jobs limits part (Checkpoint number ∷ []) (Ok (CheckpointMade count) ∷ []))) (sym (slice_get-map (λ (p : Part). table_of p) old part))
  where
    by_test : (b : Bool) (p : Part) → table_of (cond b (checkpointed_part p) p) ≡ cond b (checkpointed_table (table_of p)) (table_of p)
    by_test true p = refl
    by_test false p = refl

    by_part : (part : ℕ) (o : Option Part) → option_map (λ (p : Part). table_of p) (option_map (λ (p : Part). if number == part then checkpointed_part p else p) o) ≡ option_map (after_jobs limits part (Checkpoint number ∷ []) (Ok (CheckpointMade count) ∷ [])) (option_map (λ (p : Part). table_of p) o)
    by_part part None = refl
    by_part part (Some p) = ap Some (by_test (number == part) p)

-- the partition that is named is replaced by itself, checkpointed
pub IsCheckpointedAt-set : (parts : List Part) (i : ℕ) (q d : Part) → i < length parts → q ≡ checkpointed_part (get_or parts i d) → IsCheckpointedAt i parts (set parts i q)
IsCheckpointedAt-set parts i q d within is = λ k. ⊎_elim
    (λ (same : k ≡ i). subst (λ (n : ℕ). slice_get (set parts i q) n ≡ option_map (λ (p : Part). if i == n then checkpointed_part p else p) (slice_get parts n)) (sym same) own)
    (λ (other : k ≢ i).
    get-set_other parts i k q other ∙ same_part (slice_get parts k) (i == k) (ne_eqb i k (λ e. other (sym e))))
    (cases_eq k i)
  where
    same_part : (o : Option Part) (b : Bool) → b ≡ false → o ≡ option_map (λ (p : Part). if b then checkpointed_part p else p) o
    same_part None b no_match = refl
    same_part (Some p) b no_match = rw no_match refl

    own : slice_get (set parts i q) i ≡ option_map (λ (p : Part). if i == i then checkpointed_part p else p) (slice_get parts i)
    own = rw (slice_get-get_or parts i d within, eq-eqb i i refl) (get-set_same parts i q within ∙ ap Some is)

pub tables-checkpointed : (parts : List Part) (i count : ℕ) (q d : Part) → i < length parts → q ≡ checkpointed_part (get_or parts i d) → tables_of (set parts i q) ≡ changed_at {X = ℕ} checkpointed_table (tables_of parts) i (Ok count)
tables-checkpointed parts i count q d within is =
    let table = λ (p : Part). table_of p in
    map-set table parts i q ∙ ap (set (tables_of parts) i) (ap table is ∙ ap checkpointed_table (sym (get_or-map table parts i d fresh_table within)))

pub accepted-checkpointed : (parts : List Part) (i : ℕ) (q d : Part) → i < length parts → q ≡ checkpointed_part (get_or parts i d) → accepted_by (set parts i q) ≡ accepted_by parts
accepted-checkpointed parts i q d within is =
    let sum = sum_by-set (λ (p : Part). accepted_of (table_of p)) parts i q d within in
    let same : accepted_of (table_of q) ≡ accepted_of (table_of (get_or parts i d)) + 0 = ap (λ (p : Part). accepted_of (table_of p)) is in
    omega (arith, sum, same)

-- the outcome of a checkpoint: of a partition that is there, and if there is none
pub checkpoint-at : (parts : List Part) (i : ℕ) (d : Part) → i < length parts → Ok (get_or parts i d).since ≡ expected_checkpoint (slice_get (tables_of parts) i)
checkpoint-at parts i d within =
    let table = λ (p : Part). table_of p in
    let there = slice_get-map table parts i ∙ ap (option_map table) (slice_get-get_or parts i d within) in
    ap expected_checkpoint (sym there)

pub checkpoint-nowhere : (parts : List Part) (i : ℕ) → length parts ≤ i → Err NoSuchPartition ≡ expected_checkpoint (slice_get (tables_of parts) i)
checkpoint-nowhere parts i beyond =
    let none = slice_get_past (tables_of parts) i (omega (arith, beyond, length-map parts (λ (p : Part). table_of p))) in
    ap expected_checkpoint (sym none)

-- the partitions that a checkpoint leaves have the same keys and limits
pub opened-checkpoint : (p q : Part) → q ≡ checkpointed_part p → (q.keys ≡ p.keys) × (q.limits ≡ p.limits)
opened-checkpoint p q is = (ap (λ (p : Part). p.keys) is, ap (λ (p : Part). p.limits) is)

-- the outcome of a job is the same for equal tables
pub outcome-alike : (bounds : Bounds) (splits : List Bound) (tables others : ℕ → Option PlainView) (job : Job) (result : Result Done Refusal) → ((part : ℕ) → tables part ≡ others part) → IsJobOutcome bounds splits tables job result → IsJobOutcome bounds splits others job result
outcome-alike bounds splits tables others (Perform step) result alike comes = (comes.0, comes.1, subst (λ (t : Option PlainView). IsOutcome bounds (keys_of_part splits step.part) t step.command comes.0) (alike step.part) comes.2)
outcome-alike bounds splits tables others (Checkpoint part) result alike comes = subst (λ (t : Option PlainView). result ≡ mapped CheckpointMade (expected_checkpoint t)) (alike part) comes

-- no job
pub AreExpectedOutcomes-nil : (limits : Limits) (splits : List Bound) (tables : List PlainView) → AreExpectedOutcomes limits splits tables [] []
AreExpectedOutcomes-nil limits splits tables = record { each = refl; outcomes = λ k j r at. absurd (omega (arith, slice_get_within {A = Job} [] k j at)) }

-- one more job
pub AreExpectedOutcomes-push : (limits : Limits) (splits : List Bound) (tables : List PlainView) (jobs : List Job) (results : List (Result Done Refusal)) (j : Job) (r : Result Done Refusal) → AreExpectedOutcomes limits splits tables jobs results → IsJobOutcome (bounds_from limits) splits (λ part. option_map (after_jobs limits part jobs results) (slice_get tables part)) j r → AreExpectedOutcomes limits splits tables (jobs ++ j ∷ []) (results ++ r ∷ [])
AreExpectedOutcomes-push limits splits tables jobs results j r before now = record {
  each = omega (arith, before.each, length-append jobs (j ∷ []), length-append results (r ∷ []));
  outcomes = λ k j' r' at_job at_result. ⊎_elim
      (λ (front : k < length jobs).
      let job = sym (get-front jobs j k front) ∙ at_job in
      let result = sym (get-front results r k (omega (arith, front, before.each))) ∙ at_result in
      let same_jobs = take-append-le k jobs (j ∷ []) (omega (arith, front)) in
      let same_results = take-append-le k results (r ∷ []) (omega (arith, front, before.each)) in
      rw (same_jobs, same_results) (before.outcomes k j' r' job result))
      (λ (back : length jobs ≤ k).
      let within = slice_get_within (jobs ++ j ∷ []) k j' at_job in
      let last : k ≡ length jobs = omega (arith, back, within, length-append jobs (j ∷ [])) in
      let job : j ≡ j' = some_same (sym (get-last jobs j) ∙ ap (slice_get (jobs ++ j ∷ [])) (sym last) ∙ at_job) in
      let end : k ≡ length results = omega (arith, last, before.each) in
      let result : r ≡ r' = some_same (sym (get-last results r) ∙ ap (slice_get (results ++ r ∷ [])) (sym end) ∙ at_result) in
      let same_jobs : take k (jobs ++ j ∷ []) ≡ jobs = take-append-le k jobs (j ∷ []) (omega (arith, last)) ∙ take_all k jobs (omega (arith, last)) in
      let same_results : take k (results ++ r ∷ []) ≡ results = take-append-le k results (r ∷ []) (omega (arith, end)) ∙ take_all k results (omega (arith, end)) in
      rw (same_jobs, same_results, ← job, ← result) now)
      (cases_lt k (length jobs));
}
  where
    some_same : {X : Type 0} {x y : X} → Some x ≡ Some y → x ≡ y
    some_same e = cc

-- no job
pub DoesAll-nil : (splits : List Bound) (limits : Limits) (parts : List Part) → DoesAll splits limits [] [] parts parts
DoesAll-nil splits limits parts = refl

-- one more job
pub DoesAll-push : (splits : List Bound) (limits : Limits) (jobs : List Job) (results : List (Result Done Refusal)) (j : Job) (r : Result Done Refusal) (old now new : List Part) → DoesAll splits limits jobs results old now → Does splits limits j r now new → DoesAll splits limits (jobs ++ j ∷ []) (results ++ r ∷ []) old new
DoesAll-push splits limits [] [] j r old now new before does = (new, rw before at does, refl)
DoesAll-push splits limits [] (y ∷ results) j r old now new before does = absurd before
DoesAll-push splits limits (x ∷ jobs) [] j r old now new before does = absurd before
DoesAll-push splits limits (x ∷ jobs) (y ∷ results) j r old now new before does = (before.0, before.1, DoesAll-push splits limits jobs results j r before.0 now new before.2 does)

-- the outcome of a checkpoint that takes no memory is one of a checkpoint
pub checkpoint-expected : (table : Option PlainView) (r : Result ℕ Refusal) → r ≡ expected_checkpoint table → IsCheckpointOutcome table r
checkpoint-expected None r is = is
checkpoint-expected (Some t) r is = inl is
