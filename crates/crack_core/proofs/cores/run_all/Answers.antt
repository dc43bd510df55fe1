use Rattle.std.proofs.Common.{◌≡◌, ◌+◌, ◌<◌, ◌++◌, [], ◌∷◌, length, map, take, Option, arith, ap, refl, sym, subst, ◌∙◌, length-append, length-take-le, take_all}
use Rattle.std.proofs.lemmas.List.{length-map, map-append, take_more}
use Rattle.crack_plain.specs.Plain.{PlainView}
use Rattle.crack_core.specs.declared.step.Step.{Step}
use Rattle.crack_core.specs.declared.step.Job.TheVariants.{Perform}
use Rattle.crack_core.specs.declared.step.Done.TheVariants.{Replied}
use Rattle.crack_core.specs.Routes.{keys_of_part}
use Rattle.crack_core.specs.Steps.{bounds_from, mapped, IsOutcome, tables_of}
use Rattle.crack_core.proofs.JobLaws.{KeepsJobs-push, AreExpectedOutcomes-push, DoesAll-push}
use Rattle.crack_core.proofs.cores.run_all.Goals as goal

pub steps-preserved : goal.steps-preserved
steps-preserved c =
    let steps = c.args.steps.now in
    let i = c.steps.step-index in
    let results = c.steps.results.items in
    let s = c.step-item.result in
    let r = c.ask_at-result.result in
    let old = c.args.partitions.now in
    let now = c.steps.partitions in
    let before = c.steps.invariant in
    let within : i < length steps = omega arith in
    let front = take i steps in
    let after = c.ask_at-result.new.partitions in
    let jobs = map Perform front in
    let done = map (mapped Replied) results in
    let grown : map Perform (take (i + 1) steps) ≡ jobs ++ Perform s ∷ [] = ap (map Perform) (take_more steps i s within ∙ ap (λ (x : Step). front ++ x ∷ []) (sym c.step-item.is)) ∙ map-append Perform front (s ∷ []) in
    let more : map (mapped Replied) c.push_reserved.new.self.items ≡ done ++ mapped Replied r ∷ [] = ap (map (mapped Replied)) c.push_reserved.ensures.items ∙ map-append (mapped Replied) results (r ∷ []) in
    let long : length done ≡ length jobs = omega (arith, length-map results (mapped Replied), length-map front Perform, before.count, length-take-le i steps (omega (arith, within))) in
    record {
      room = omega (arith, before.room, c.push_reserved.ensures.capacity);
      count = omega (arith, before.count, ap length c.push_reserved.ensures.items, length-append results (r ∷ []));
      replies = λ splits limits are. rw (grown, more) (AreExpectedOutcomes-push limits splits (tables_of old) jobs done (Perform s) (mapped Replied r) (before.replies splits limits are)
          (r, refl, subst (λ (t : Option PlainView). IsOutcome (bounds_from limits) (keys_of_part splits s.part) t s.command r) (before.kept splits limits are s.part) (c.ask_at-result.ensures.outcome splits limits (before.parts splits limits are))));
      kept = λ splits limits are. rw (grown, more) (KeepsJobs-push limits (tables_of old) (tables_of now) (tables_of after) jobs done (Perform s) (mapped Replied r) long (before.kept splits limits are) (c.ask_at-result.ensures.kept splits limits (before.parts splits limits are)));
      stores = λ splits limits are. rw (grown, more) (DoesAll-push splits limits jobs done (Perform s) (mapped Replied r) old now after (before.stores splits limits are) (
        r,
        refl,
        record {
          parts = c.ask_at-result.ensures.parts splits limits (before.parts splits limits are);
          kept = c.ask_at-result.ensures.after splits limits (before.parts splits limits are);
          others = c.ask_at-result.ensures.others;
          store = c.ask_at-result.ensures.store;
          spared = c.ask_at-result.ensures.spared;
          same = c.ask_at-result.ensures.same;
        },
      ));
      parts = λ splits limits are. c.ask_at-result.ensures.parts splits limits (before.parts splits limits are);
    }

pub returns-clause-replies : goal.returns-clause-replies
returns-clause-replies c = λ splits limits are.
    let all : take c.steps.step-index c.args.steps.now ≡ c.args.steps.now = take_all c.steps.step-index c.args.steps.now (omega arith) in
    rw all at (c.steps.invariant.replies splits limits are)

pub returns-clause-stores : goal.returns-clause-stores
returns-clause-stores c = λ splits limits are.
    let all : take c.steps.step-index c.args.steps.now ≡ c.args.steps.now = take_all c.steps.step-index c.args.steps.now (omega arith) in
    rw all at (c.steps.invariant.stores splits limits are)

pub returns-clause-kept : goal.returns-clause-kept
returns-clause-kept c = λ splits limits are.
    let all : take c.steps.step-index c.args.steps.now ≡ c.args.steps.now = take_all c.steps.step-index c.args.steps.now (omega arith) in
    rw all at (c.steps.invariant.kept splits limits are)
