use Rattle.std.proofs.Common.{◌≡◌, ◌+◌, ◌<◌, ◌++◌, [], ◌∷◌, length, take, arith, ap, sym, ◌∙◌, length-append, length-take-le, take_all}
use Rattle.std.proofs.lemmas.List.{take_more}
use Rattle.std.specs.Prelude.{slice_get}
use Rattle.std.specs.Option.{option_map}
use Rattle.crack_core.specs.declared.step.Job.{Job}
use Rattle.crack_core.specs.Steps.{bounds_from, tables_of}
use Rattle.crack_core.specs.Jobs.{after_jobs}
use Rattle.crack_core.proofs.JobLaws.{KeepsJobs-push, AreExpectedOutcomes-push, DoesAll-push, outcome-alike}
use Rattle.crack_core.proofs.cores.do_all.Goals as goal

pub jobs-preserved : goal.jobs-preserved
jobs-preserved c =
    let jobs = c.args.jobs.now in
    let i = c.jobs.job-index in
    let results = c.jobs.results.items in
    let j = c.job-item.result in
    let r = c.do_job-result.result in
    let old = c.args.partitions.now in
    let now = c.jobs.partitions in
    let before = c.jobs.invariant in
    let within : i < length jobs = omega arith in
    let front = take i jobs in
    let grown : take (i + 1) jobs ≡ front ++ j ∷ [] = take_more jobs i j within ∙ ap (λ (x : Job). front ++ x ∷ []) (sym c.job-item.is) in
    let long : length results ≡ length front = before.count ∙ sym (length-take-le i jobs (omega (arith, within))) in
    record {
      room = omega (arith, before.room, c.push_reserved.ensures.capacity);
      count = omega (arith, before.count, ap length c.push_reserved.ensures.items, length-append results (r ∷ []));
      replies = λ splits limits are. rw (grown, c.push_reserved.ensures.items) (AreExpectedOutcomes-push limits splits (tables_of old) front results j r (before.replies splits limits are)
          (outcome-alike (bounds_from limits) splits (slice_get (tables_of now)) (λ part. option_map (after_jobs limits part front results) (slice_get (tables_of old) part)) j r (before.kept splits limits are) (c.do_job-result.ensures.outcome splits limits (before.parts splits limits are))));
      kept = λ splits limits are. rw (grown, c.push_reserved.ensures.items) (KeepsJobs-push limits (tables_of old) (tables_of now) (tables_of c.do_job-result.new.partitions) front results j r long (before.kept splits limits are) (c.do_job-result.ensures.kept splits limits (before.parts splits limits are)));
      stores = λ splits limits are. rw (grown, c.push_reserved.ensures.items) (DoesAll-push splits limits front results j r old now c.do_job-result.new.partitions (before.stores splits limits are) (c.do_job-result.ensures.does splits limits (before.parts splits limits are)));
      parts = λ splits limits are. c.do_job-result.ensures.parts splits limits (before.parts splits limits are);
    }

pub returns-clause-replies : goal.returns-clause-replies
returns-clause-replies c = λ splits limits are.
    let all : take c.jobs.job-index c.args.jobs.now ≡ c.args.jobs.now = take_all c.jobs.job-index c.args.jobs.now (omega arith) in
    rw all at (c.jobs.invariant.replies splits limits are)

pub returns-clause-stores : goal.returns-clause-stores
returns-clause-stores c = λ splits limits are.
    let all : take c.jobs.job-index c.args.jobs.now ≡ c.args.jobs.now = take_all c.jobs.job-index c.args.jobs.now (omega arith) in
    rw all at (c.jobs.invariant.stores splits limits are)

pub returns-clause-kept : goal.returns-clause-kept
returns-clause-kept c = λ splits limits are.
    let all : take c.jobs.job-index c.args.jobs.now ≡ c.args.jobs.now = take_all c.jobs.job-index c.args.jobs.now (omega arith) in
    rw all at (c.jobs.invariant.kept splits limits are)
