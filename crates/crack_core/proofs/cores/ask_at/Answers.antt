use Rattle.std.proofs.Common.{◌≡◌, ◌≢◌, ◌<◌, length, get_or, set, arith, ap, subst, [], ◌∷◌, ◌∙◌, Result, Ok, Err, IfErr}
use Rattle.std.proofs.lemmas.List.{set-get_or}
use Rattle.crack_row.specs.declared.command.Reply.{Reply}
use Rattle.crack_row.specs.declared.refusal.Refusal.{Refusal}
use Rattle.crack_row.specs.declared.refusal.Refusal.TheVariants.{OutOfMemory}
use Rattle.crack_part.specs.Parts.{Part, IsSound, table_of, Serves, Spares}
use Rattle.crack_part.specs.Refusals.{refusal_of}
use Rattle.crack_row.specs.declared.limit.Limits.{Limits}
use Rattle.crack_core.specs.Steps.{bounds_from, mapped, tables_of, tables_after}
use Rattle.crack_core.specs.Jobs.{after_job, KeepsJobs}
use Rattle.crack_core.specs.declared.step.Job.TheVariants.{Perform}
use Rattle.crack_core.specs.declared.step.Done.TheVariants.{Replied}
use Rattle.crack_core.proofs.StepLaws.{outcome-given, table-given, same-given, ok_given, err_given, outcome-at, Keeps-set, tables-set, accepted-set, AreParts-set, get-set_other, replaced-at}
use Rattle.crack_core.proofs.ShortLaws.{may-lack}
use Rattle.crack_core.proofs.cores.ask_at.Goals as goal

-- the partition as it was
abbrev asked : (c : goal.After-recall_invariant) → Part
asked c = get_or c.args.partitions.now c.args.step.part c.index-partitions-part.result

-- its plain table is that after the step
kept : (c : goal.After-recall_invariant) → table_of c.apply-answered.new.self ≡ after_job (asked c).limits c.args.step.part (Perform c.args.step) (mapped Replied c.apply-answered.result) (table_of (asked c))
kept c = table-given (asked c).limits (table_of (asked c)) (table_of c.apply-answered.new.self) c.args.step c.apply-answered.result c.apply-answered.ensures.table c.apply-answered.ensures.err

if_err : (r : Result Reply Refusal) (P Q : Refusal → Type 0) → ((e : Refusal) → P e → Q e) → IfErr r P → IfErr r Q
if_err (Ok reply) P Q f h = tt
if_err (Err e) P Q f h = f e h

pub returns-clause-outcome : goal.returns-clause-outcome
returns-clause-outcome c = λ splits limits are.
    let e = c.apply-answered.ensures in
    let command = c.args.step.command in
    let within : c.args.step.part < length c.args.partitions.now = omega arith in
    let sound : IsSound (asked c) = are.sound c.args.step.part c.index-partitions-part.result within in
    outcome-at splits limits c.args.partitions.now c.args.step c.apply-answered.result c.index-partitions-part.result are within (outcome-given (asked c) c.apply-answered.new.self command c.apply-answered.result e.reply e.refused e.memory (may-lack (asked c) command sound))

pub returns-clause-after : goal.returns-clause-after
returns-clause-after c = λ splits limits are.
    let within : c.args.step.part < length c.args.partitions.now = omega arith in
    let own : (asked c).limits ≡ limits = are.alike c.args.step.part c.index-partitions-part.result within in
    subst (λ (l : Limits). tables_of (set c.args.partitions.now c.args.step.part c.apply-answered.new.self) ≡ tables_after (bounds_from l) (tables_of c.args.partitions.now) c.args.step.part c.args.step.command c.apply-answered.result) own (tables-set (asked c).limits c.args.partitions.now c.apply-answered.new.self c.index-partitions-part.result c.args.step c.apply-answered.result within (kept c))

pub returns-clause-kept : goal.returns-clause-kept
returns-clause-kept c = λ splits limits are.
    let within : c.args.step.part < length c.args.partitions.now = omega arith in
    let own : (asked c).limits ≡ limits = are.alike c.args.step.part c.index-partitions-part.result within in
    subst (λ (l : Limits). KeepsJobs l (tables_of c.args.partitions.now) (Perform c.args.step ∷ []) (mapped Replied c.apply-answered.result ∷ []) (tables_of (set c.args.partitions.now c.args.step.part c.apply-answered.new.self))) own
    (Keeps-set (asked c).limits c.args.partitions.now c.apply-answered.new.self c.index-partitions-part.result c.args.step c.apply-answered.result within (kept c))

pub returns-clause-accepted : goal.returns-clause-accepted
returns-clause-accepted c =
    let within : c.args.step.part < length c.args.partitions.now = omega arith in
    accepted-set (asked c).limits c.args.partitions.now c.apply-answered.new.self c.index-partitions-part.result c.args.step c.apply-answered.result within (kept c)

pub returns-clause-parts : goal.returns-clause-parts
returns-clause-parts c = λ splits limits are.
    let opened = c.apply-answered.ensures.opened in
    let within : c.args.step.part < length c.args.partitions.now = omega arith in
    AreParts-set splits limits c.args.partitions.now c.args.step.part c.apply-answered.new.self c.index-partitions-part.result within are opened.0 opened.1 c.recall_invariant.ensures

pub returns-clause-others : goal.returns-clause-others
returns-clause-others c = λ k differs. get-set_other c.args.partitions.now c.args.step.part k c.apply-answered.new.self differs

pub returns-clause-store : goal.returns-clause-store
returns-clause-store c =
    let s = c.args.step in
    let old = asked c in
    let new = c.apply-answered.new.self in
    let within : s.part < length c.args.partitions.now = omega arith in
    ok_given c.apply-answered.result c.apply-answered.ensures.store (λ (serves : Serves s.policy old s.command new.store).
    replaced-at (λ (x y : Part). Serves s.policy x s.command y.store) c.args.partitions.now s.part new c.index-partitions-part.result within serves)

pub returns-clause-spared : goal.returns-clause-spared
returns-clause-spared c =
    let s = c.args.step in
    let old = asked c in
    let new = c.apply-answered.new.self in
    let within : s.part < length c.args.partitions.now = omega arith in
    err_given c.apply-answered.result c.apply-answered.ensures.spared (λ (spares : Spares s.policy old s.command new.store).
    replaced-at (λ (x y : Part). Spares s.policy x s.command y.store) c.args.partitions.now s.part new c.index-partitions-part.result within spares)

pub returns-clause-same : goal.returns-clause-same
returns-clause-same c =
    let s = c.args.step in
    let parts = c.args.partitions.now in
    let new = c.apply-answered.new.self in
    let e = c.apply-answered.ensures in
    let kept = same-given (asked c) new (refusal_of (asked c) s.command) c.apply-answered.result e.refused e.memory in
    if_err c.apply-answered.result (λ e. e ≢ OutOfMemory → new ≡ asked c) (λ e. e ≢ OutOfMemory → set parts s.part new ≡ parts) (λ e same other. ap (set parts s.part) (same other) ∙ set-get_or parts s.part c.index-partitions-part.result) kept
