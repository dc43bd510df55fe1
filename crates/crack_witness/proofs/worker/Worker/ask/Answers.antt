use Rattle.std.proofs.Common.{rules, Err, sym, ◌∙◌, ap, subst, ◌≡◌, refl, ◌++◌, ◌∷◌, [], List, ℕ, arith, ◌<◌, slice_index_or, slice_set, length, length-append, ◌+◌}
use Rattle.std.specs.Prelude.{sum_by, Option}
use mathlib.Core.List.{IsPrefix}
use Rattle.crack_row.specs.declared.command.Entry.{Entry}
use Rattle.crack_plain.specs.Past.{with_entry}
use Rattle.crack_plain.specs.Plain.{accepted_of}
use Rattle.crack_witness.specs.declared.receipt.Receipt.{Receipt}
use Rattle.crack_part.specs.Parts.{table_of}
use Rattle.crack_part.proofs.ClearLaws.{Spares-unchanged}
use Rattle.crack_witness.specs.declared.event.Event.{Event}
use Rattle.crack_witness.specs.Audits.{listed, and_one}
use Rattle.crack_witness.specs.Histories.{history_of, calls_at, upkept_past}
use Rattle.crack_witness.specs.Witnesses.{WorkerState, IsGiven, IsInStep, past_of}
use Rattle.crack_witness.specs.Keeps.{IsWorker}
use Rattle.crack_witness.proofs.Counting.{given_exact, worker_after, sum_more}
use Rattle.crack_witness.proofs.Lists.{prefix_self}
use Rattle.crack_witness.proofs.worker.Worker.ask.Goals as goal

-- a refusal of the partition's own is passed on
given : (g : _) (c : goal.After-from_residual g) → c.from_residual.result ≡ Err c.in_err-reply.field-0.0
given g c = search rules

pub returns-clause-given : goal.returns-clause-given
returns-clause-given g c =
    let own : ℕ → ℕ = g.J.Naming.owner in
    let log = c.args.witnessed.now.log in
    let same : c.args.witnessed.now.part ≡ c.args.part = sym c.part.ensures ∙ c.if-part.false in
    let told = c.in_ok-reply.ensures in
    let e : Entry = record { worker = c.self.inside.number; command = c.args.command; reply = c.in_ok-reply.reply } in
    let kept : history_of (own c.args.witnessed.now.part) c.ask.new.me ≡ history_of (own c.args.witnessed.now.part) log ++ e ∷ [] = ap (history_of (own c.args.witnessed.now.part)) told.seen.0 ∙ told.written in
    let here : history_of (own c.args.part) c.ask.new.me ≡ history_of (own c.args.part) log ++ e ∷ [] = subst (λ (p : ℕ). history_of (own p) c.ask.new.me ≡ history_of (own p) log ++ e ∷ []) same kept in
    let old : IsPrefix (history_of (own c.args.part) c.self.inside.seen_events) (history_of (own c.args.part) log) = subst (λ (p : ℕ). IsPrefix (history_of (own p) c.self.inside.seen_events) (history_of (own p) log)) same told.before in
    let given : IsGiven own c.args.part e c.self.inside.seen_events c.ask.new.me = record { before = history_of (own c.args.part) log; ends = here; begins = old } in
    subst (λ (a : WorkerState). IsGiven own c.args.part (record { worker = a.worker; command = c.args.command; reply = c.in_ok-reply.reply }) a.seen c.ask.new.me) c.self.view_is given

pub returns-clause-mine : goal.returns-clause-mine
returns-clause-mine g c =
    let own : ℕ → ℕ = g.J.Naming.owner in
    let n = c.self.inside.number in
    let log = c.args.witnessed.now.log in
    let f = slice_index_or c.self.inside.seen_by_part.items c.args.part [] in
    let e : Entry = record { worker = n; command = c.args.command; reply = c.in_ok-reply.reply } in
    let same : c.args.witnessed.now.part ≡ c.args.part = sym c.part.ensures ∙ c.if-part.false in
    let told = c.in_ok-reply.ensures in
    let less : c.args.part < length c.self.inside.seen_by_part.items = search rules in
    let counted : c.in-Some.count ≡ length (calls_at own c.args.part n f) = search (rules, c.self.invariant.counted c.args.part less) in
    let kept : history_of (own c.args.witnessed.now.part) c.ask.new.me ≡ history_of (own c.args.witnessed.now.part) log ++ e ∷ [] = ap (history_of (own c.args.witnessed.now.part)) told.seen.0 ∙ told.written in
    let exact = given_exact own n c.args.part c.args.witnessed.now.part f c.self.inside.seen_events log c.ask.new.me e c.in-Some.count same (c.self.invariant.begins c.args.part less) told.before kept refl counted told.in_step.same in
    subst (λ (a : WorkerState). calls_at own c.args.part a.worker c.ask.new.me ≡ calls_at own c.args.part a.worker (slice_index_or a.seen_by_part c.args.part []) ++ record { worker = a.worker; command = c.args.command; reply = c.in_ok-reply.reply } ∷ []) c.self.view_is exact

pub invariant_of-self-2 : goal.invariant_of-self-2
invariant_of-self-2 g c =
    let own : ℕ → ℕ = g.J.Naming.owner in
    let n = c.self.inside.number in
    let log = c.args.witnessed.now.log in
    let f = slice_index_or c.self.inside.seen_by_part.items c.args.part [] in
    let e : Entry = record { worker = n; command = c.args.command; reply = c.in_ok-reply.reply } in
    let same : c.args.witnessed.now.part ≡ c.args.part = sym c.part.ensures ∙ c.if-part.false in
    let told = c.in_ok-reply.ensures in
    let less : c.args.part < length c.self.inside.seen_by_part.items = search rules in
    let counted : c.in-Some.count ≡ length (calls_at own c.args.part n f) = search (rules, c.self.invariant.counted c.args.part less) in
    let kept : history_of (own c.args.witnessed.now.part) c.ask.new.me ≡ history_of (own c.args.witnessed.now.part) log ++ e ∷ [] = ap (history_of (own c.args.witnessed.now.part)) told.seen.0 ∙ told.written in
    let exact = given_exact own n c.args.part c.args.witnessed.now.part f c.self.inside.seen_events log c.ask.new.me e c.in-Some.count same (c.self.invariant.begins c.args.part less) told.before kept refl counted told.in_step.same in
    let more : c.in-Some.count + 1 ≡ length (calls_at own c.args.part n c.ask.new.me) = omega (arith, counted, ap length exact, length-append (calls_at own c.args.part n f) (e ∷ [])) in
    let r : Receipt = record { part = c.args.witnessed.now.part; position = accepted_of (table_of c.args.witnessed.now.held); worker = n; command = c.args.command; reply = c.in_ok-reply.reply } in
    let seen_by_part = c.self.inside.seen_by_part.items in
    let counts = c.self.inside.counts.items in
    let one : c.in-Some.count ≡ slice_index_or counts c.args.part 0 = search rules in
    let after = worker_after own n c.self.inside.seen_events seen_by_part counts (listed c.self.inside.receipts) c.args.part (c.in-Some.count + 1) c.ask.new.me r c.self.invariant less c.ask.ensures.begins.0 more (omega (arith, told.few)) (omega (arith, one)) in
    let received : listed c.ask.new.receipts ≡ and_one (listed c.self.inside.receipts) r = told.receipts in
    subst (λ (l : List Event). IsWorker own n c.ask.new.me (slice_set seen_by_part c.args.part l) (slice_set counts c.args.part (c.in-Some.count + 1)) (listed c.ask.new.receipts)) (sym c.copy.ensures)
    (subst (λ (l : Option (List Receipt)). IsWorker own n c.ask.new.me (slice_set seen_by_part c.args.part c.ask.new.me) (slice_set counts c.args.part (c.in-Some.count + 1)) l) (sym received) after)

pub overflow_add-count : goal.overflow_add-count
overflow_add-count g c = omega (arith, c.in_ok-reply.ensures.few)

pub returns-clause-count : goal.returns-clause-count
returns-clause-count g c =
    let n = c.self.inside.number in
    let counts = c.self.inside.counts.items in
    let less : c.args.part < length counts = search rules in
    let is : c.in-Some.count ≡ slice_index_or counts c.args.part 0 = search rules in
    let more : sum_by (λ (n : ℕ). n) (slice_set counts c.args.part (c.in-Some.count + 1)) ≡ sum_by (λ (n : ℕ). n) counts + 1 = sum_more counts c.args.part (c.in-Some.count + 1) less (omega (arith, is)) in
    subst (λ (a : WorkerState). sum_by (λ (n : ℕ). n) (slice_set counts c.args.part (c.in-Some.count + 1)) ≡ sum_by (λ (n : ℕ). n) a.counts + 1) c.self.view_is more

pub returns-in_default-clause-reply : goal.returns-in_default-clause-reply
returns-in_default-clause-reply g c = tt

pub returns-in_default-clause-small : goal.returns-in_default-clause-small
returns-in_default-clause-small g c = tt

pub returns-in_default-clause-given : goal.returns-in_default-clause-given
returns-in_default-clause-given g c = tt

pub returns-in_default-clause-mine : goal.returns-in_default-clause-mine
returns-in_default-clause-mine g c = tt

pub returns-in_default-clause-count : goal.returns-in_default-clause-count
returns-in_default-clause-count g c = tt

pub returns-in_default-clause-seen_by_part : goal.returns-in_default-clause-seen_by_part
returns-in_default-clause-seen_by_part g c = tt

pub returns-in_default-clause-legal : goal.returns-in_default-clause-legal
returns-in_default-clause-legal g c = tt

pub returns-in_default-clause-whole : goal.returns-in_default-clause-whole
returns-in_default-clause-whole g c = tt

pub returns-in_default-clause-table : goal.returns-in_default-clause-table
returns-in_default-clause-table g c = tt

pub returns-in_default-clause-opened : goal.returns-in_default-clause-opened
returns-in_default-clause-opened g c = (refl, refl, refl)

pub returns-in_default-clause-seen : goal.returns-in_default-clause-seen
returns-in_default-clause-seen g c = (prefix_self _, prefix_self _)

pub returns-in_default-clause-worker : goal.returns-in_default-clause-worker
returns-in_default-clause-worker g c = refl

pub returns-in_default-clause-nowhere : goal.returns-in_default-clause-nowhere
returns-in_default-clause-nowhere g c = λ beyond. refl

pub returns-in_default-clause-err : goal.returns-in_default-clause-err
returns-in_default-clause-err g c = (refl, refl, refl)

pub returns-then-part-clause-reply : goal.returns-then-part-clause-reply
returns-then-part-clause-reply g c = tt

pub returns-then-part-clause-small : goal.returns-then-part-clause-small
returns-then-part-clause-small g c = tt

pub returns-then-part-clause-given : goal.returns-then-part-clause-given
returns-then-part-clause-given g c = tt

pub returns-then-part-clause-mine : goal.returns-then-part-clause-mine
returns-then-part-clause-mine g c = tt

pub returns-then-part-clause-count : goal.returns-then-part-clause-count
returns-then-part-clause-count g c = tt

pub returns-then-part-clause-seen_by_part : goal.returns-then-part-clause-seen_by_part
returns-then-part-clause-seen_by_part g c = tt

pub returns-then-part-clause-legal : goal.returns-then-part-clause-legal
returns-then-part-clause-legal g c = tt

pub returns-then-part-clause-whole : goal.returns-then-part-clause-whole
returns-then-part-clause-whole g c = tt

pub returns-then-part-clause-table : goal.returns-then-part-clause-table
returns-then-part-clause-table g c = tt

pub returns-then-part-clause-opened : goal.returns-then-part-clause-opened
returns-then-part-clause-opened g c = (refl, refl, refl)

pub returns-then-part-clause-seen : goal.returns-then-part-clause-seen
returns-then-part-clause-seen g c = (prefix_self _, prefix_self _)

pub returns-then-part-clause-worker : goal.returns-then-part-clause-worker
returns-then-part-clause-worker g c = refl

pub returns-then-part-clause-err : goal.returns-then-part-clause-err
returns-then-part-clause-err g c = (refl, refl, refl)

pub returns-in_err-reply-clause-reply : goal.returns-in_err-reply-clause-reply
returns-in_err-reply-clause-reply g c = rw (given g c) tt

pub returns-in_err-reply-clause-small : goal.returns-in_err-reply-clause-small
returns-in_err-reply-clause-small g c = rw (given g c) tt

pub returns-in_err-reply-clause-given : goal.returns-in_err-reply-clause-given
returns-in_err-reply-clause-given g c = rw (given g c) tt

pub returns-in_err-reply-clause-mine : goal.returns-in_err-reply-clause-mine
returns-in_err-reply-clause-mine g c = rw (given g c) tt

pub returns-in_err-reply-clause-count : goal.returns-in_err-reply-clause-count
returns-in_err-reply-clause-count g c = rw (given g c) tt

pub returns-in_err-reply-clause-seen_by_part : goal.returns-in_err-reply-clause-seen_by_part
returns-in_err-reply-clause-seen_by_part g c = rw (given g c) tt

pub returns-in_err-reply-clause-legal : goal.returns-in_err-reply-clause-legal
returns-in_err-reply-clause-legal g c = rw (given g c) tt

pub returns-in_err-reply-clause-whole : goal.returns-in_err-reply-clause-whole
returns-in_err-reply-clause-whole g c = rw (given g c) tt

pub returns-in_err-reply-clause-table : goal.returns-in_err-reply-clause-table
returns-in_err-reply-clause-table g c = rw (given g c) tt

pub returns-in_default-clause-receipts : goal.returns-in_default-clause-receipts
returns-in_default-clause-receipts g c = tt

pub returns-then-part-clause-receipts : goal.returns-then-part-clause-receipts
returns-then-part-clause-receipts g c = tt

pub returns-in_err-reply-clause-receipts : goal.returns-in_err-reply-clause-receipts
returns-in_err-reply-clause-receipts g c = rw (given g c) tt

pub returns-clause-receipts : goal.returns-clause-receipts
returns-clause-receipts g c =
    let same : c.args.witnessed.now.part ≡ c.args.part = sym c.part.ensures ∙ c.if-part.false in
    let position = accepted_of (table_of c.args.witnessed.now.held) in
    let receipt : ℕ → ℕ → Receipt = λ worker part. record { part = part; position = position; worker = worker; command = c.args.command; reply = c.in_ok-reply.reply } in
    let here : listed c.ask.new.receipts ≡ and_one (listed c.self.inside.receipts) (receipt c.self.inside.number c.args.part) = subst (λ (p : ℕ). listed c.ask.new.receipts ≡ and_one (listed c.self.inside.receipts) (receipt c.self.inside.number p)) same c.in_ok-reply.ensures.receipts in
    subst (λ (a : WorkerState). listed c.ask.new.receipts ≡ and_one a.receipts (receipt a.worker c.args.part)) c.self.view_is here

pub returns-in_err-reply-clause-err : goal.returns-in_err-reply-clause-err
returns-in_err-reply-clause-err g c =
    let told = c.in_err-reply.ensures in
    let n = c.self.inside.number in
    let seen_by_part = c.self.inside.seen_by_part.items in
    let counts = c.self.inside.counts.items in
    let with : List Event → Option (List Receipt) → WorkerState = λ seen receipts. record { worker = n; seen = seen; seen_by_part = seen_by_part; counts = counts; receipts = receipts } in
    let same : with c.ask.new.me (listed c.ask.new.receipts) ≡ with c.self.inside.seen_events (listed c.self.inside.receipts) = λ i. with (told.err.2 i) (told.unlisted.1 i) in
    rw (given g c, ← c.self.view_is) (same, told.err.0, told.err.1)

pub returns-in_default-clause-written : goal.returns-in_default-clause-written
returns-in_default-clause-written g c = tt

pub returns-then-part-clause-written : goal.returns-then-part-clause-written
returns-then-part-clause-written g c = tt

pub returns-in_err-reply-clause-written : goal.returns-in_err-reply-clause-written
returns-in_err-reply-clause-written g c = rw (given g c) tt

pub returns-in_default-clause-divides : goal.returns-in_default-clause-divides
returns-in_default-clause-divides g c = tt

pub returns-then-part-clause-divides : goal.returns-then-part-clause-divides
returns-then-part-clause-divides g c = tt

pub returns-in_err-reply-clause-divides : goal.returns-in_err-reply-clause-divides
returns-in_err-reply-clause-divides g c = rw (given g c) tt

pub returns-in_default-clause-entries : goal.returns-in_default-clause-entries
returns-in_default-clause-entries g c = tt

pub returns-then-part-clause-entries : goal.returns-then-part-clause-entries
returns-then-part-clause-entries g c = tt

pub returns-in_err-reply-clause-entries : goal.returns-in_err-reply-clause-entries
returns-in_err-reply-clause-entries g c = rw (given g c) tt

pub returns-in_default-clause-store : goal.returns-in_default-clause-store
returns-in_default-clause-store g c = tt

pub returns-then-part-clause-store : goal.returns-then-part-clause-store
returns-then-part-clause-store g c = tt

pub returns-in_err-reply-clause-store : goal.returns-in_err-reply-clause-store
returns-in_err-reply-clause-store g c = rw (given g c) tt

pub returns-in_default-clause-spared : goal.returns-in_default-clause-spared
returns-in_default-clause-spared g c = Spares-unchanged c.args.policy c.args.witnessed.now.held c.args.command

pub returns-then-part-clause-spared : goal.returns-then-part-clause-spared
returns-then-part-clause-spared g c = Spares-unchanged c.args.policy c.args.witnessed.now.held c.args.command

pub returns-in_err-reply-clause-spared : goal.returns-in_err-reply-clause-spared
returns-in_err-reply-clause-spared g c = rw (given g c) c.in_err-reply.ensures.spared

pub returns-clause-written : goal.returns-clause-written
returns-clause-written g c =
    let own : ℕ → ℕ = g.J.Naming.owner in
    let log = c.args.witnessed.now.log in
    let now = c.ask.new.self.log in
    let same : c.args.witnessed.now.part ≡ c.args.part = sym c.part.ensures ∙ c.if-part.false in
    let entry : ℕ → Entry = λ worker. record { worker = worker; command = c.args.command; reply = c.in_ok-reply.reply } in
    let here : history_of (own c.args.part) now ≡ history_of (own c.args.part) log ++ entry c.self.inside.number ∷ [] = subst (λ (p : ℕ). history_of (own p) now ≡ history_of (own p) log ++ entry c.self.inside.number ∷ []) same c.in_ok-reply.ensures.written in
    subst (λ (w : WorkerState). history_of (own c.args.part) now ≡ history_of (own c.args.part) log ++ entry w.worker ∷ []) c.self.view_is here

pub returns-clause-divides : goal.returns-clause-divides
returns-clause-divides g c =
    let own : ℕ → ℕ = g.J.Naming.owner in
    let w = c.args.witnessed.now in
    let entry : ℕ → Entry = λ worker. record { worker = worker; command = c.args.command; reply = c.in_ok-reply.reply } in
    subst (λ (a : WorkerState). past_of own c.ask.new.self ≡ with_entry (upkept_past w.held.limits (past_of own w)) (entry a.worker)) c.self.view_is c.in_ok-reply.ensures.divides

pub returns-clause-entries : goal.returns-clause-entries
returns-clause-entries g c =
    let entry : ℕ → Entry = λ worker. record { worker = worker; command = c.args.command; reply = c.in_ok-reply.reply } in
    subst (λ (a : WorkerState). c.ask.new.self.entries ≡ and_one c.args.witnessed.now.entries (entry a.worker)) c.self.view_is c.in_ok-reply.ensures.entries

pub returns-in_default-clause-unlisted : goal.returns-in_default-clause-unlisted
returns-in_default-clause-unlisted g c = refl

pub returns-then-part-clause-unlisted : goal.returns-then-part-clause-unlisted
returns-then-part-clause-unlisted g c = refl

pub returns-in_err-reply-clause-unlisted : goal.returns-in_err-reply-clause-unlisted
returns-in_err-reply-clause-unlisted g c = rw (given g c) c.in_err-reply.ensures.unlisted.0

pub returns-in_err-reply-clause-refused : goal.returns-in_err-reply-clause-refused
returns-in_err-reply-clause-refused g c = λ less knows.
    let own : ℕ → ℕ = g.J.Naming.owner in
    let w = c.args.witnessed.now in
    let n = c.self.inside.number in
    let is : c.in-Some.count ≡ slice_index_or c.self.inside.counts.items c.args.part 0 = search rules in
    let here : IsInStep own w n (slice_index_or c.self.inside.counts.items c.args.part 0) = subst (λ (a : WorkerState). IsInStep own w a.worker (slice_index_or a.counts c.args.part 0)) (sym c.self.view_is) knows.1 in
    let in_step : IsInStep own w n c.in-Some.count = subst (λ (k : ℕ). IsInStep own w n k) (sym is) here in
    rw (given g c) (c.in_err-reply.ensures.refused in_step)
