use Rattle.std.proofs.Common.{rules, refl, Option, None, Err, inr, ◌≡◌, ◌<◌, ◌+◌, ◌∙◌, ap, sym, subst, ℕ, List, [], ◌∷◌, ◌++◌, length, arith, slice_set, slice_index_or}
use Rattle.std.specs.Prelude.{All}
use Rattle.std.proofs.lemmas.List.{length-set}
use Rattle.std.proofs.lemmas.List.Elements.{All-push}
use Rattle.crack_row.specs.declared.command.Entry.{Entry}
use Rattle.crack_plain.specs.Plain.{PlainState, PlainView, no_rows, reply_to}
use Rattle.crack_plain.proofs.Words.{replay_from}
use Rattle.crack_plain.proofs.Laws.{AreReplies-push, BringWithin-push}
use Rattle.crack_part.specs.Parts.{Part, table_of}
use Rattle.crack_part.specs.Refusals.{refusal_of}
use Rattle.crack_part.specs.Upkeep.{answered}
use Rattle.crack_row.specs.Ranges.{Range}
use Rattle.crack_part.proofs.ClearLaws.{Spares-unchanged}
use Rattle.crack_part.proofs.RefusalLaws.{if_refused}
use Rattle.crack_witness.proofs.Keeping.{refused-for, replied-for}
use Rattle.crack_witness.specs.Histories.{history_of, calls_by, IsPastOf, past_in}
use Rattle.crack_witness.specs.Witnesses.{WitnessedState}
use Rattle.crack_witness.specs.Keeps.{AreCounts, AreWithin}
use Rattle.crack_witness.specs.Audits.{listed}
use Rattle.crack_witness.proofs.Keeping.{IsPastOf-push, calls-le-accepted, listed_more}
use Rattle.crack_witness.proofs.Pasts.{within-kept, divided-answered}
use Rattle.crack_witness.proofs.Counting.{counts_set}
use Rattle.crack_witness.proofs.Lists.{prefix_self}
use Rattle.crack_witness.proofs.witnessed.Witnessed.ask.Goals as goal

-- a refusal of the partition's own is passed on
given : (g : _) (c : goal.After-from_residual g) → c.from_residual.result ≡ Err c.in_err-reply.field-0.0
given g c = search rules

pub write-requires : goal.write-requires
write-requires g c =
    let owner = g.J.Naming.owner c.self.inside.history_writer.part in
    let h = history_of owner c.self.inside.history_writer.log in
    let e : Entry = record { worker = c.args.worker; command = c.args.command; reply = c.in_ok-reply.reply } in
    let is : c.in_ok-reply.reply ≡ reply_to (replay_from no_rows h) c.args.command = c.in_ok-reply.ensures.reply ∙ ap (λ (s : PlainState). reply_to s c.args.command) c.self.invariant.0.rows in
    AreReplies-push no_rows h e (c.part-part.ensures.legal owner) is

-- the worker's count, and a bound on it
pub overflow_add-count : goal.overflow_add-count
overflow_add-count g c =
    let h = history_of (g.J.Naming.owner c.self.inside.history_writer.part) c.self.inside.history_writer.log in
    let at = c.is_at.ensures.0 c.if-not-is_at.false in
    let items = c.as_slice.ensures.value in
    let less : c.args.worker < length c.self.inside.answered.items = subst (λ (l : List ℕ). c.args.worker < length l) items at.0 in
    let is : slice_index_or c.self.inside.answered.items c.args.worker 0 ≡ c.args.count = subst (λ (l : List ℕ). slice_index_or l c.args.worker 0 ≡ c.args.count) items at.1 in
    let counted : slice_index_or c.self.inside.answered.items c.args.worker 0 ≡ length (calls_by c.args.worker h) = c.self.invariant.1 c.args.worker less in
    omega (arith, is, counted, calls-le-accepted c.args.worker h (table_of c.self.inside.partition) c.self.invariant.0, c.recall_invariant.ensures.lived, c.recall_invariant.ensures.limited.life.1)

pub invariant_of-self-2 : goal.invariant_of-self-2
invariant_of-self-2 g c =
    let own : ℕ → ℕ = g.J.Naming.owner in
    let h = history_of (own c.self.inside.history_writer.part) c.self.inside.history_writer.log in
    let e : Entry = record { worker = c.args.worker; command = c.args.command; reply = c.in_ok-reply.reply } in
    let at = c.is_at.ensures.0 c.if-not-is_at.false in
    let items = c.as_slice.ensures.value in
    let less : c.args.worker < length c.self.inside.answered.items = subst (λ (l : List ℕ). c.args.worker < length l) items at.0 in
    let is : slice_index_or c.self.inside.answered.items c.args.worker 0 ≡ c.args.count = subst (λ (l : List ℕ). slice_index_or l c.args.worker 0 ≡ c.args.count) items at.1 in
    let counts : AreCounts (slice_set c.self.inside.answered.items c.args.worker (c.args.count + 1)) (h ++ e ∷ []) = counts_set c.self.inside.answered.items h e (c.args.count + 1) c.self.invariant.1 (omega (arith, is)) less in
    let new : history_of (own c.write.new.self.part) c.write.new.self.log ≡ h ++ e ∷ [] = ap (λ (p : ℕ). history_of (own p) c.write.new.self.log) c.write.ensures.part ∙ c.write.ensures.history in
    let past : IsPastOf (h ++ e ∷ []) (table_of c.apply_listed.new.partition) = subst (IsPastOf (h ++ e ∷ [])) (sym {A = PlainView} c.in_ok-reply.ensures.table) (IsPastOf-push h c.self.inside.partition.limits (table_of c.self.inside.partition) e c.self.invariant.0) in
    let all = All-push (λ (x : Entry). x.worker < length c.self.inside.answered.items) h e c.self.invariant.2 less in
    let are_below : ℕ → List Entry → Type 0 = λ n es. All (λ (x : Entry). x.worker < n) es in
    let own_all : are_below (length (slice_set c.self.inside.answered.items c.args.worker (c.args.count + 1))) (h ++ e ∷ []) = subst (λ (n : ℕ). are_below n (h ++ e ∷ [])) (sym (length-set c.self.inside.answered.items c.args.worker (c.args.count + 1))) all in
    let p = c.self.inside.partition in
    let none : refusal_of p c.args.command ≡ None = replied-for (refusal_of p c.args.command) c.in_ok-reply.reply (c.apply_listed.new.partition ≡ p) c.in_ok-reply.ensures.refused in
    let keyed : AreWithin p.keys (h ++ e ∷ []) = BringWithin-push p.keys h e c.self.invariant.4 (within-kept p c.args.command none) in
    let within : AreWithin c.apply_listed.new.partition.keys (h ++ e ∷ []) = subst (λ (keys : Range). AreWithin keys (h ++ e ∷ [])) (sym c.in_ok-reply.ensures.opened.0) keyed in
    (subst (λ (l : List Entry). IsPastOf l (table_of c.apply_listed.new.partition)) (sym new) past, subst (AreCounts (slice_set c.self.inside.answered.items c.args.worker (c.args.count + 1))) (sym new) counts, subst (are_below (length (slice_set c.self.inside.answered.items c.args.worker (c.args.count + 1)))) (sym new) own_all, listed_more (listed c.self.inside.entries) (listed c.apply_listed.new.entries) h (history_of (own c.write.new.self.part) c.write.new.self.log) e c.self.invariant.3 c.in_ok-reply.ensures.entries new, subst (AreWithin c.apply_listed.new.partition.keys) (sym new) within)

pub returns-clause-few : goal.returns-clause-few
returns-clause-few g c =
    let h = history_of (g.J.Naming.owner c.self.inside.history_writer.part) c.self.inside.history_writer.log in
    let at = c.is_at.ensures.0 c.if-not-is_at.false in
    let items = c.as_slice.ensures.value in
    let less : c.args.worker < length c.self.inside.answered.items = subst (λ (l : List ℕ). c.args.worker < length l) items at.0 in
    let is : slice_index_or c.self.inside.answered.items c.args.worker 0 ≡ c.args.count = subst (λ (l : List ℕ). slice_index_or l c.args.worker 0 ≡ c.args.count) items at.1 in
    let counted : slice_index_or c.self.inside.answered.items c.args.worker 0 ≡ length (calls_by c.args.worker h) = c.self.invariant.1 c.args.worker less in
    omega (arith, is, counted, calls-le-accepted c.args.worker h (table_of c.self.inside.partition) c.self.invariant.0, c.recall_invariant.ensures.lived, c.recall_invariant.ensures.limited.life.1)

pub returns-clause-refused : goal.returns-clause-refused
returns-clause-refused g c = λ in_step.
    let p = c.self.inside.partition in
    let none : refusal_of p c.args.command ≡ None = replied-for (refusal_of p c.args.command) c.in_ok-reply.reply (c.apply_listed.new.partition ≡ p) c.in_ok-reply.ensures.refused in
    rw (← c.self.view_is, none) tt

pub returns-in_err-reply-clause-refused : goal.returns-in_err-reply-clause-refused
returns-in_err-reply-clause-refused g c = λ in_step.
    let e0 = c.in_err-reply.field-0.0 in
    let given : c.from_residual.result ≡ Err e0 = given g c in
    let p = c.self.inside.partition in
    let lists = c.in_err-reply.ensures.unlisted.0 in
    let with : Part → Option (List Entry) → WitnessedState = λ held list. record { part = c.self.inside.history_writer.part; log = c.self.inside.history_writer.log; held = held; workers = length c.self.inside.answered.items; entries = list } in
    rw (← c.self.view_is) (if_refused (refusal_of p c.args.command) (λ e. (Err e0 ≡ Err e) × (c.apply_listed.new.partition ≡ p)) (λ e. (c.from_residual.result ≡ Err e) × (with c.apply_listed.new.partition (listed c.apply_listed.new.entries) ≡ with p (listed c.self.inside.entries)))
    (λ e is. (given ∙ ap Err (cc is.0), λ i. with (is.1 i) (lists i))) c.in_err-reply.ensures.refused)

pub returns-in_err-reply-clause-causes : goal.returns-in_err-reply-clause-causes
returns-in_err-reply-clause-causes g c =
    let e0 = c.in_err-reply.field-0.0 in
    let given : c.from_residual.result ≡ Err e0 = given g c in
    let p = c.self.inside.partition in
    let cause = refused-for (refusal_of p c.args.command) e0 (c.apply_listed.new.partition ≡ p) c.in_err-reply.ensures.refused c.in_err-reply.ensures.memory in
    rw (given, ← c.self.view_is) (inr cause)

pub returns-then-not-is_at-clause-reply : goal.returns-then-not-is_at-clause-reply
returns-then-not-is_at-clause-reply g c = tt

pub returns-then-not-is_at-clause-small : goal.returns-then-not-is_at-clause-small
returns-then-not-is_at-clause-small g c = tt

pub returns-then-not-is_at-clause-written : goal.returns-then-not-is_at-clause-written
returns-then-not-is_at-clause-written g c = tt

pub returns-then-not-is_at-clause-table : goal.returns-then-not-is_at-clause-table
returns-then-not-is_at-clause-table g c = tt

pub returns-then-not-is_at-clause-store : goal.returns-then-not-is_at-clause-store
returns-then-not-is_at-clause-store g c = tt

pub returns-then-not-is_at-clause-opened : goal.returns-then-not-is_at-clause-opened
returns-then-not-is_at-clause-opened g c = (refl, refl)

pub returns-then-not-is_at-clause-part : goal.returns-then-not-is_at-clause-part
returns-then-not-is_at-clause-part g c = (refl, refl)

pub returns-then-not-is_at-clause-seen : goal.returns-then-not-is_at-clause-seen
returns-then-not-is_at-clause-seen g c = tt

pub returns-then-not-is_at-clause-before : goal.returns-then-not-is_at-clause-before
returns-then-not-is_at-clause-before g c = tt

pub returns-then-not-is_at-clause-begins : goal.returns-then-not-is_at-clause-begins
returns-then-not-is_at-clause-begins g c = (prefix_self _, prefix_self _)

pub returns-then-not-is_at-clause-in_step : goal.returns-then-not-is_at-clause-in_step
returns-then-not-is_at-clause-in_step g c = tt

pub returns-then-not-is_at-clause-few : goal.returns-then-not-is_at-clause-few
returns-then-not-is_at-clause-few g c = tt

pub returns-then-not-is_at-clause-err : goal.returns-then-not-is_at-clause-err
returns-then-not-is_at-clause-err g c = (refl, refl, refl)

pub returns-in_err-reply-clause-reply : goal.returns-in_err-reply-clause-reply
returns-in_err-reply-clause-reply g c = rw (given g c) tt

pub returns-in_err-reply-clause-small : goal.returns-in_err-reply-clause-small
returns-in_err-reply-clause-small g c = rw (given g c) tt

pub returns-in_err-reply-clause-written : goal.returns-in_err-reply-clause-written
returns-in_err-reply-clause-written g c = rw (given g c) tt

pub returns-in_err-reply-clause-table : goal.returns-in_err-reply-clause-table
returns-in_err-reply-clause-table g c = rw (given g c) tt

pub returns-in_err-reply-clause-store : goal.returns-in_err-reply-clause-store
returns-in_err-reply-clause-store g c = rw (given g c) tt

pub returns-in_err-reply-clause-seen : goal.returns-in_err-reply-clause-seen
returns-in_err-reply-clause-seen g c = rw (given g c) tt

pub returns-in_err-reply-clause-before : goal.returns-in_err-reply-clause-before
returns-in_err-reply-clause-before g c = rw (given g c) tt

pub returns-in_err-reply-clause-in_step : goal.returns-in_err-reply-clause-in_step
returns-in_err-reply-clause-in_step g c = rw (given g c) tt

pub returns-in_err-reply-clause-few : goal.returns-in_err-reply-clause-few
returns-in_err-reply-clause-few g c = rw (given g c) tt

pub returns-then-not-is_at-clause-receipts : goal.returns-then-not-is_at-clause-receipts
returns-then-not-is_at-clause-receipts g c = tt

pub returns-in_err-reply-clause-receipts : goal.returns-in_err-reply-clause-receipts
returns-in_err-reply-clause-receipts g c = rw (given g c) tt

pub returns-then-not-is_at-clause-entries : goal.returns-then-not-is_at-clause-entries
returns-then-not-is_at-clause-entries g c = tt

pub returns-in_err-reply-clause-entries : goal.returns-in_err-reply-clause-entries
returns-in_err-reply-clause-entries g c = rw (given g c) tt

pub returns-then-not-is_at-clause-unlisted : goal.returns-then-not-is_at-clause-unlisted
returns-then-not-is_at-clause-unlisted g c = (refl, refl)

pub returns-in_err-reply-clause-unlisted : goal.returns-in_err-reply-clause-unlisted
returns-in_err-reply-clause-unlisted g c = rw (given g c, ← c.self.view_is) c.in_err-reply.ensures.unlisted

pub returns-in_err-reply-clause-spared : goal.returns-in_err-reply-clause-spared
returns-in_err-reply-clause-spared g c = rw (given g c, ← c.self.view_is) c.in_err-reply.ensures.spared

pub returns-then-not-is_at-clause-spared : goal.returns-then-not-is_at-clause-spared
returns-then-not-is_at-clause-spared g c = Spares-unchanged c.args.policy c.args.self.now.held c.args.command

pub returns-clause-divides : goal.returns-clause-divides
returns-clause-divides g c =
    let own : ℕ → ℕ = g.J.Naming.owner in
    let h = history_of (own c.self.inside.history_writer.part) c.self.inside.history_writer.log in
    let p = c.self.inside.partition in
    let now = c.apply_listed.new.partition in
    let e : Entry = record { worker = c.args.worker; command = c.args.command; reply = c.in_ok-reply.reply } in
    let new : history_of (own c.write.new.self.part) c.write.new.self.log ≡ h ++ e ∷ [] = ap (λ (n : ℕ). history_of (own n) c.write.new.self.log) c.write.ensures.part ∙ c.write.ensures.history in
    let table : table_of now ≡ answered p.limits (table_of p) c.args.command = c.in_ok-reply.ensures.table in
    let is = ap (λ (l : List Entry). past_in l (table_of now)) new ∙ (ap (past_in (h ++ e ∷ [])) table ∙ divided-answered h p.limits (table_of p) e c.self.invariant.0) in
    rw (← c.self.view_is) is

pub returns-then-not-is_at-clause-divides : goal.returns-then-not-is_at-clause-divides
returns-then-not-is_at-clause-divides g c = tt

pub returns-in_err-reply-clause-divides : goal.returns-in_err-reply-clause-divides
returns-in_err-reply-clause-divides g c = rw (given g c) tt
