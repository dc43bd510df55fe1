-- Replies follow from the base and from the commands, so steps with the same commands have the same answers.
use Rattle.std.specs.Prelude.{◌≡◌, ◌≢◌, ◌⊎◌, ℕ, suc, ◌+◌, ◌<◌, ◌≤◌, ◌==◌, ◌&&◌, not, Bool, true, false, cond, List, [], ◌∷◌, ◌++◌, length, map, take, Option, None, Some, IfSome, IsOk, Result, Ok, Err, slice_get, All, nat_le, if◌then◌else◌}
use Rattle.std.specs.Option.{option_map, option_or}
use Rattle.std.proofs.Common.{ap, sym, refl, subst, ◌∙◌, arith, inl, inr, ⊎_elim, get_or, append-nil, append_assoc, length-append}
use Rattle.std.proofs.lemmas.Bool.{eq-eqb, ne_eqb, cases_eq, le-leb, lt-leb, lt-ltb}
use Rattle.std.proofs.lemmas.List.{map-append, length-map, get_or-map}
use Rattle.std.proofs.lemmas.Option.{slice_get-map, slice_get_within, slice_get-get_or, get_or_from_slice_get}
use Rattle.crack_row.specs.Commands.{key_of}
use Rattle.crack_row.specs.Ranges.{Range, IsIn}
use Rattle.crack_row.specs.declared.Bound.{Bound}
use Rattle.crack_row.specs.declared.Key.{Key}
use Rattle.crack_row.specs.declared.command.Command.{Command}
use Rattle.crack_row.specs.declared.command.Entry.{Entry}
use Rattle.crack_row.specs.declared.command.Reply.{Reply}
use Rattle.crack_row.specs.declared.limit.Limits.{Limits}
use Rattle.crack_row.specs.declared.refusal.Refusal.{Refusal}
use Rattle.crack_row.specs.declared.refusal.Refusal.TheVariants.{KeyOutside, HistoryFull, LifeOver, OutOfMemory, NoCell}
use Rattle.crack_plain.specs.Past.{Past, IsLegal, state_after, with_entry, accepted_in, checkpointed_past}
use Rattle.crack_plain.specs.Plain.{PlainState, PlainView, AreReplies, checkpointed_table, reply_to, after}
use Rattle.crack_plain.proofs.PastLaws.{state_after-push}
use Rattle.crack_plain.proofs.Words.{IsWithin, BringWithin, replay_from}
use Rattle.crack_part.specs.Refusals.{is_key_in}
use Rattle.crack_part.specs.Parts.{Part}
use Rattle.crack_part.specs.Upkeep.{is_automatic, is_due}
use Rattle.crack_core.specs.Opening.{AreParts}
use Rattle.crack_core.specs.Routes.{keys_of_part}
use Rattle.crack_core.specs.Steps.{bounds_from, mapped, unless, expected, IsOutcome, table_after, upkept_by}
use Rattle.crack_core.specs.Jobs.{after_job, after_jobs, IsJobOutcome}
use Rattle.crack_core.proofs.JobLaws.{outcome-alike}
use Rattle.crack_core.specs.declared.step.Step.{Step}
use Rattle.crack_core.specs.declared.step.Job.{Job}
use Rattle.crack_core.specs.declared.step.Job.TheVariants.{Perform}
use Rattle.crack_core.specs.declared.step.Done.{Done}
use Rattle.crack_core.specs.declared.step.Done.TheVariants.{Replied}
use Rattle.crack_witness.specs.Histories.{upkept_past}
use Rattle.crack_witness.specs.Witnesses.{WitnessedState, IsWhole, past_of}
use Rattle.crack_witness.proofs.Pasts.{upkept-room}
use Rattle.crack_table.specs.Gather.{held_by}
use Rattle.crack_table.specs.Repeats.{pasts_of, asked, asked_of, replies_of_part, first_refusal, at_base, table_of_past, table_at_base, said, Repeats}

-- an entry in the middle has the reply of the state that those before it leave
middle-reply : (s : PlainState) (xs ys : List Entry) (e : Entry) → AreReplies s (xs ++ e ∷ ys) → e.reply ≡ reply_to (replay_from s xs) e.command
middle-reply s [] ys e legal = legal.0
middle-reply s (x ∷ xs) ys e legal = middle-reply (after s x.command) xs ys e legal.1

-- and its key, if it has one, is the partition's
middle-within : (keys : Range) (xs ys : List Entry) (e : Entry) → BringWithin keys (xs ++ e ∷ ys) → IsWithin keys e.command
middle-within keys [] ys e bring = bring 0 e (omega arith)
middle-within keys (x ∷ xs) ys e bring = middle-within keys xs ys e (λ k d within. bring (suc k) d (omega (arith, within)))

key-tested : (keys : Range) (key : Option Key) → IfSome key (λ (k : Key). IsIn keys k.0) → is_key_in keys key ≡ true
key-tested keys None is = refl
key-tested keys (Some key) is = rw (le-leb keys.low key.0 is.0, lt-ltb key.0 keys.high is.1) refl

-- if no test holds there is no cause
uncaused : (limits : Limits) (own full over : Bool) → own ≡ true → full ≡ false → over ≡ false → ◌≡◌ {A = Option Refusal} (if own then option_or (if full then Some (HistoryFull limits.history) else (if over then Some LifeOver else None)) None else Some KeyOutside) None
uncaused limits own full over is goes lives = rw (is, goes, lives) refl

-- a past on the way to another: of the same base, with the first entries of its history; and the commands of the others are still to come
record OnTheWay (past now : Past) (asks : List Command) : Type 0 where
  pub rest : List Entry
  pub base : now.base ≡ past.base
  pub tails : past.tail ≡ now.tail ++ rest
  pub coming : asks ≡ map asked rest

-- the next command of a partition is to be answered as it was
next-answered : (limits : Limits) (keys : Range) (past now : Past) (e : Entry) (rest : List Entry) → IsLegal keys limits past → now.base ≡ past.base → past.tail ≡ now.tail ++ e ∷ rest → expected (bounds_from limits) keys (Some (table_of_past now)) e.command ≡ Ok e.reply
next-answered limits keys past now e rest legal base tails =
    let long : length past.tail ≡ length now.tail + length (e ∷ rest) = ap length tails ∙ length-append now.tail (e ∷ rest) in
    let more : length (e ∷ rest) ≡ suc (length rest) = refl in
    let room : length now.tail < limits.history = omega (arith, long, more, legal.limited) in
    let checkpointed_same : now.base.checkpointed ≡ past.base.checkpointed = ap (λ b. b.checkpointed) base in
    let lives : accepted_in now < limits.life = omega (arith, long, more, checkpointed_same, legal.lived) in
    let full : (nat_le limits.history (length now.tail) && not (is_automatic limits.upkeep)) ≡ false = ap (λ (b : Bool). b && not (is_automatic limits.upkeep)) (lt-leb limits.history (length now.tail) room) in
    let within : IsWithin keys e.command = middle-within keys now.tail rest e (subst (λ (es : List Entry). BringWithin keys es) tails legal.within) in
    let none = uncaused limits (is_key_in keys (key_of e.command)) (nat_le limits.history (length now.tail) && not (is_automatic limits.upkeep)) (nat_le limits.life (accepted_in now)) (key-tested keys (key_of e.command) within) full (lt-leb limits.life (accepted_in now) lives) in
    let reply : e.reply ≡ reply_to (state_after now) e.command = rw base (middle-reply past.base.state now.tail rest e (subst (λ (es : List Entry). AreReplies past.base.state es) tails legal.replies)) in
    ap (λ (o : Option Refusal). unless o (reply_to (state_after now) e.command)) none ∙ ap Ok (sym reply)

-- the outcome of a step comes as its job's
unperformed : (r s : Result Reply Refusal) → mapped Replied r ≡ mapped Replied s → r ≡ s
unperformed (Ok x) (Ok y) same = let is : x ≡ y = cc same in ap Ok is
unperformed (Ok x) (Err e) same = cc same
unperformed (Err e) (Ok x) same = cc same
unperformed (Err e) (Err f) same = let is : e ≡ f = cc same in ap Err is

-- a reply, or a lack of memory or of a cell
answered-or : {Lacks : Type 0} (reply : Reply) (o r : Result Reply Refusal) → o ≡ Ok reply → (r ≡ o) ⊎ (IsOk o × ((r ≡ Err OutOfMemory) ⊎ ((r ≡ Err NoCell) × Lacks))) → (r ≡ Ok reply) ⊎ ((r ≡ Err OutOfMemory) ⊎ (r ≡ Err NoCell))
answered-or {Lacks} reply o r is comes = ⊎_elim (λ (same : r ≡ o). inl (same ∙ is)) (λ (wants : IsOk o × ((r ≡ Err OutOfMemory) ⊎ ((r ≡ Err NoCell) × Lacks))). inr (⊎_elim (λ (m : r ≡ Err OutOfMemory). inl m) (λ (c : (r ≡ Err NoCell) × Lacks). inr c.0) wants.1)) comes

-- the entry that a step makes for a worker
abbrev made : ℕ → Step → Reply → Entry
made worker step reply = record { worker = worker; command = step.command; reply = reply }

-- the past of one partition with these limits after a step: one of its own that was answered is one more entry, after upkeep is done
abbrev past_after : Limits → ℕ → ℕ → Step → Result Reply Refusal → Past → Past
past_after limits worker part step (Ok reply) past = if step.part == part then with_entry (upkept_past limits past) (made worker step reply) else past
past_after limits worker part step (Err e) past = past

-- one more entry is one more command of the plain table
table_of_past-push : (past : Past) (e : Entry) → table_of_past (with_entry past e) ≡ table_after (table_of_past past) e.command
table_of_past-push past e =
    let long : length (past.tail ++ e ∷ []) ≡ length past.tail + 1 = omega (arith, length-append past.tail (e ∷ [])) in
    rw (state_after-push past e, long) refl

-- upkeep does the same to a past and to its plain table
table_of_past-upkept : (limits : Limits) (past : Past) → table_of_past (upkept_past limits past) ≡ upkept_by (bounds_from limits) (table_of_past past)
table_of_past-upkept limits past = by_test (is_due limits (length past.tail))
  where
    by_test : (b : Bool) → table_of_past (cond b (checkpointed_past past) past) ≡ cond b (checkpointed_table (table_of_past past)) (table_of_past past)
    by_test true = refl
    by_test false = refl

-- the plain table of a past after a step is its plain table after that step
table-stepped : (limits : Limits) (worker part : ℕ) (step : Step) (r : Result Reply Refusal) (past : Past) → table_of_past (past_after limits worker part step r past) ≡ after_job limits part (Perform step) (mapped Replied r) (table_of_past past)
table-stepped limits worker part step (Ok reply) past = by_test (step.part == part)
  where
    by_test : (b : Bool) → table_of_past (cond b (with_entry (upkept_past limits past) (made worker step reply)) past) ≡ cond b (table_after (upkept_by (bounds_from limits) (table_of_past past)) step.command) (table_of_past past)
    by_test true = table_of_past-push (upkept_past limits past) (made worker step reply) ∙ ap (λ (t : PlainView). table_after t step.command) (table_of_past-upkept limits past)
    by_test false = refl
table-stepped limits worker part step (Err e) past = refl

-- the outcomes of steps are those of partitions that have these pasts
abbrev Outcomes : Limits → List Bound → (ℕ → Option Past) → List Step → List (Result Reply Refusal) → Type 0
Outcomes limits splits now steps results =
    (k : ℕ) (job : Job) (result : Result Done Refusal) → slice_get (map Perform steps) k ≡ Some job → slice_get (map (mapped Replied) results) k ≡ Some result →
    IsJobOutcome (bounds_from limits) splits (λ part. option_map (λ (past : Past). after_jobs limits part (take k (map Perform steps)) (take k (map (mapped Replied) results)) (table_of_past past)) (now part)) job result

-- the partitions after one step
abbrev stepped : Limits → ℕ → Step → Result Reply Refusal → (ℕ → Option Past) → ℕ → Option Past
stepped limits worker step result now part = option_map (past_after limits worker part step result) (now part)

outcomes-rest : (limits : Limits) (worker : ℕ) (splits : List Bound) (now : ℕ → Option Past) (step : Step) (steps : List Step) (result : Result Reply Refusal) (results : List (Result Reply Refusal)) → Outcomes limits splits now (step ∷ steps) (result ∷ results) → Outcomes limits splits (stepped limits worker step result now) steps results
outcomes-rest limits worker splits now step steps result results outcomes = λ k job r at there.
    outcome-alike (bounds_from limits) splits
    (λ part. option_map (λ (past : Past). after_jobs limits part (take (suc k) (map Perform (step ∷ steps))) (take (suc k) (map (mapped Replied) (result ∷ results))) (table_of_past past)) (now part))
    (λ part. option_map (λ (past : Past). after_jobs limits part (take k (map Perform steps)) (take k (map (mapped Replied) results)) (table_of_past past)) (stepped limits worker step result now part))
    job r (λ part. rest k part (now part)) (outcomes (suc k) job r at there)
  where
    rest : (k part : ℕ) (o : Option Past) → option_map (λ (past : Past). after_jobs limits part (take (suc k) (map Perform (step ∷ steps))) (take (suc k) (map (mapped Replied) (result ∷ results))) (table_of_past past)) o ≡ option_map (λ (past : Past). after_jobs limits part (take k (map Perform steps)) (take k (map (mapped Replied) results)) (table_of_past past)) (option_map (past_after limits worker part step result) o)
    rest k part None = refl
    rest k part (Some past) = ap (λ (t : PlainView). Some (after_jobs limits part (take k (map Perform steps)) (take k (map (mapped Replied) results)) t)) (sym (table-stepped limits worker part step result past))

-- each partition is on the way to its past
abbrev Going : (ℕ → Option Past) → (ℕ → Option Past) → List Step → Type 0
Going final now steps = (part : ℕ) (past : Past) → final part ≡ Some past → (cur : Past) × (now part ≡ Some cur) × OnTheWay past cur (asked_of part steps)

-- each step's partition is there
abbrev AreThere : (ℕ → Option Past) → List Step → Type 0
AreThere final [] = Unit {0}
AreThere final (step ∷ steps) = ((past : Past) × (final step.part ≡ Some past)) × AreThere final steps

abbrev AreLegal : Limits → List Bound → (ℕ → Option Past) → Type 0
AreLegal limits splits final = (part : ℕ) (past : Past) → final part ≡ Some past → IsLegal (keys_of_part splits part) limits past

-- what follows from such steps
record Followed (final now : ℕ → Option Past) (steps : List Step) (results : List (Result Reply Refusal)) : Type 0 where
  pub whole : first_refusal results ≡ None → (part : ℕ) (past cur : Past) → final part ≡ Some past → now part ≡ Some cur → map said past.tail ≡ map said cur.tail ++ (replies_of_part part steps results ++ [])
  pub begun : (part : ℕ) (past cur : Past) → final part ≡ Some past → now part ≡ Some cur → (rest : List Reply) × (map said past.tail ≡ map said cur.tail ++ (replies_of_part part steps results ++ rest))
  pub refused : IfSome (first_refusal results) (λ e. (e ≡ OutOfMemory) ⊎ (e ≡ NoCell))

-- a partition's own step is the first that it is asked
asked-own : (step : Step) (steps : List Step) → asked_of step.part (step ∷ steps) ≡ step.command ∷ asked_of step.part steps
asked-own step steps = ap (λ (b : Bool). cond b (step.command ∷ asked_of step.part steps) (asked_of step.part steps)) (eq-eqb step.part step.part refl)

asked-other : (part : ℕ) (step : Step) (steps : List Step) → step.part ≢ part → asked_of part (step ∷ steps) ≡ asked_of part steps
asked-other part step steps differs = ap (λ (b : Bool). cond b (step.command ∷ asked_of part steps) (asked_of part steps)) (ne_eqb step.part part differs)

replies-own : (step : Step) (steps : List Step) (reply : Reply) (results : List (Result Reply Refusal)) → replies_of_part step.part (step ∷ steps) (Ok reply ∷ results) ≡ reply ∷ replies_of_part step.part steps results
replies-own step steps reply results = ap (λ (b : Bool). cond b (reply ∷ replies_of_part step.part steps results) (replies_of_part step.part steps results)) (eq-eqb step.part step.part refl)

replies-other : (part : ℕ) (step : Step) (steps : List Step) (reply : Reply) (results : List (Result Reply Refusal)) → step.part ≢ part → replies_of_part part (step ∷ steps) (Ok reply ∷ results) ≡ replies_of_part part steps results
replies-other part step steps reply results differs = ap (λ (b : Bool). cond b (reply ∷ replies_of_part part steps results) (replies_of_part part steps results)) (ne_eqb step.part part differs)

-- the past after a step of its own, and after another
after-own : (limits : Limits) (worker : ℕ) (step : Step) (reply : Reply) (past : Past) → length past.tail < limits.history → past_after limits worker step.part step (Ok reply) past ≡ with_entry past (made worker step reply)
after-own limits worker step reply past room =
    ap (λ (b : Bool). cond b (with_entry (upkept_past limits past) (made worker step reply)) past) (eq-eqb step.part step.part refl)
    ∙ ap (λ (p : Past). with_entry p (made worker step reply)) (upkept-room limits past room)

after-other : (limits : Limits) (worker part : ℕ) (step : Step) (reply : Reply) (past : Past) → step.part ≢ part → past_after limits worker part step (Ok reply) past ≡ past
after-other limits worker part step reply past differs = ap (λ (b : Bool). cond b (with_entry (upkept_past limits past) (made worker step reply)) past) (ne_eqb step.part part differs)

-- the next entry of a step's partition
record Next (final now : ℕ → Option Past) (step : Step) (steps : List Step) : Type 0 where
  pub past : Past
  pub cur : Past
  pub entry : Entry
  pub rest : List Entry
  pub final_is : final step.part ≡ Some past
  pub now_is : now step.part ≡ Some cur
  pub base : cur.base ≡ past.base
  pub tails : past.tail ≡ cur.tail ++ entry ∷ rest
  pub command : entry.command ≡ step.command
  pub coming : asked_of step.part steps ≡ map asked rest

next-by : (final now : ℕ → Option Past) (step : Step) (steps : List Step) (past cur : Past) → final step.part ≡ Some past → now step.part ≡ Some cur → cur.base ≡ past.base → (rest : List Entry) → past.tail ≡ cur.tail ++ rest → step.command ∷ asked_of step.part steps ≡ map asked rest → Next final now step steps
next-by final now step steps past cur final_is now_is base [] tails coming = absurd (cc coming)
next-by final now step steps past cur final_is now_is base (e ∷ rest) tails coming =
    let same : step.command ≡ asked e = cc coming in
    record { past = past; cur = cur; entry = e; rest = rest; final_is = final_is; now_is = now_is; base = base; tails = tails; command = sym same; coming = cc coming }

next : (final now : ℕ → Option Past) (step : Step) (steps : List Step) → Going final now (step ∷ steps) → AreThere final (step ∷ steps) → Next final now step steps
next final now step steps going there =
    let past = there.0.0 in
    let way = going step.part past there.0.1 in
    next-by final now step steps past way.0 there.0.1 way.1 way.2.base way.2.rest way.2.tails (sym (asked-own step steps) ∙ way.2.coming)

module _ (limits : Limits) (splits : List Bound) (final : ℕ → Option Past) (legal : AreLegal limits splits final) where
  -- there is room for the next entry
  next-room : (now : ℕ → Option Past) (step : Step) (steps : List Step) (n : Next final now step steps) → length n.cur.tail < limits.history
  next-room now step steps n =
      let long : length n.past.tail ≡ length n.cur.tail + length (n.entry ∷ n.rest) = ap length n.tails ∙ length-append n.cur.tail (n.entry ∷ n.rest) in
      let more : length (n.entry ∷ n.rest) ≡ suc (length n.rest) = refl in
      let few : length n.past.tail ≤ limits.history = (legal step.part n.past n.final_is).limited in
      omega (arith, long, more, few)

  -- the outcome of a step is the reply of that entry, or a lack of memory or of a cell
  comes : (now : ℕ → Option Past) (step : Step) (steps : List Step) (result : Result Reply Refusal) (results : List (Result Reply Refusal)) (n : Next final now step steps) → Outcomes limits splits now (step ∷ steps) (result ∷ results) → (result ≡ Ok n.entry.reply) ⊎ ((result ≡ Err OutOfMemory) ⊎ (result ≡ Err NoCell))
  comes now step steps result results n outcomes =
      let keys = keys_of_part splits step.part in
      let job : IsJobOutcome (bounds_from limits) splits (λ part. option_map (λ (past : Past). table_of_past past) (now part)) (Perform step) (mapped Replied result) = outcomes 0 (Perform step) (mapped Replied result) refl refl in
      let mine : IsOutcome (bounds_from limits) keys (Some (table_of_past n.cur)) step.command job.0 = subst (λ (o : Option Past). IsOutcome (bounds_from limits) keys (option_map (λ (past : Past). table_of_past past) o) step.command job.0) n.now_is job.2 in
      let same : expected (bounds_from limits) keys (Some (table_of_past n.cur)) step.command ≡ Ok n.entry.reply = subst (λ (c : Command). expected (bounds_from limits) keys (Some (table_of_past n.cur)) c ≡ Ok n.entry.reply) n.command (next-answered limits keys n.past n.cur n.entry n.rest (legal step.part n.past n.final_is) n.base n.tails) in
      rw (unperformed result job.0 job.1) (answered-or n.entry.reply (expected (bounds_from limits) keys (Some (table_of_past n.cur)) step.command) job.0 same mine)

  -- and then all are still on the way
  gone-on : (now : ℕ → Option Past) (step : Step) (steps : List Step) (n : Next final now step steps) → Going final now (step ∷ steps) → Going final (stepped limits n.entry.worker step (Ok n.entry.reply) now) steps
  gone-on now step steps n going = λ part past is. ⊎_elim (λ (same : part ≡ step.part). own part past is same) (λ (other : part ≢ step.part). else_where part past is other) (cases_eq part step.part)
    where
      cur-after : Past
      cur-after = with_entry n.cur (made n.entry.worker step n.entry.reply)

      entry-made : made n.entry.worker step n.entry.reply ≡ n.entry
      entry-made = rw (← n.command) refl

      own : (part : ℕ) (past : Past) → final part ≡ Some past → part ≡ step.part → (cur : Past) × (stepped limits n.entry.worker step (Ok n.entry.reply) now part ≡ Some cur) × OnTheWay past cur (asked_of part steps)
      own part past is same =
          let one : n.past ≡ past = cc (is, same, n.final_is) in
          let there : stepped limits n.entry.worker step (Ok n.entry.reply) now part ≡ Some cur-after = rw (same, n.now_is) (ap Some (after-own limits n.entry.worker step n.entry.reply n.cur (next-room now step steps n))) in
          let tails : past.tail ≡ (n.cur.tail ++ made n.entry.worker step n.entry.reply ∷ []) ++ n.rest = rw (← one, entry-made) (n.tails ∙ sym (append_assoc n.cur.tail (n.entry ∷ []) n.rest)) in
          (cur-after, there, record { rest = n.rest; base = rw (← one) n.base; tails = tails; coming = rw same n.coming })

      else_where : (part : ℕ) (past : Past) → final part ≡ Some past → part ≢ step.part → (cur : Past) × (stepped limits n.entry.worker step (Ok n.entry.reply) now part ≡ Some cur) × OnTheWay past cur (asked_of part steps)
      else_where part past is other =
          let way = going part past is in
          let differs : step.part ≢ part = λ e. other (sym e) in
          let there : stepped limits n.entry.worker step (Ok n.entry.reply) now part ≡ Some way.0 = rw way.1 (ap Some (after-other limits n.entry.worker part step n.entry.reply way.0 differs)) in
          (way.0, there, record { rest = way.2.rest; base = way.2.base; tails = way.2.tails; coming = sym (asked-other part step steps differs) ∙ way.2.coming })

  -- what holds for the steps after it holds for these
  said-on : (now : ℕ → Option Past) (step : Step) (steps : List Step) (results : List (Result Reply Refusal)) (n : Next final now step steps) (part : ℕ) (tail : List Reply) (cur : Past) (rest : List Reply) → now part ≡ Some cur → ((cur' : Past) → stepped limits n.entry.worker step (Ok n.entry.reply) now part ≡ Some cur' → tail ≡ map said cur'.tail ++ (replies_of_part part steps results ++ rest)) → tail ≡ map said cur.tail ++ (replies_of_part part (step ∷ steps) (Ok n.entry.reply ∷ results) ++ rest)
  said-on now step steps results n part tail cur rest is behind = ⊎_elim own else_where (cases_eq part step.part)
    where
      reply : Reply
      reply = n.entry.reply

      own : part ≡ step.part → tail ≡ map said cur.tail ++ (replies_of_part part (step ∷ steps) (Ok reply ∷ results) ++ rest)
      own same =
          let one : n.cur ≡ cur = cc (is, same, n.now_is) in
          let there : stepped limits n.entry.worker step (Ok reply) now part ≡ Some (with_entry n.cur (made n.entry.worker step reply)) = rw (same, n.now_is) (ap Some (after-own limits n.entry.worker step reply n.cur (next-room now step steps n))) in
          let given = behind (with_entry n.cur (made n.entry.worker step reply)) there in
          let here : tail ≡ map said n.cur.tail ++ (replies_of_part step.part (step ∷ steps) (Ok reply ∷ results) ++ rest) =
          subst (λ (p : ℕ). tail ≡ map said (n.cur.tail ++ made n.entry.worker step reply ∷ []) ++ (replies_of_part p steps results ++ rest)) same given
          ∙ ap (λ (l : List Reply). l ++ (replies_of_part step.part steps results ++ rest)) (map-append said n.cur.tail (made n.entry.worker step reply ∷ []))
          ∙ append_assoc (map said n.cur.tail) (reply ∷ []) (replies_of_part step.part steps results ++ rest)
          ∙ ap (λ (l : List Reply). map said n.cur.tail ++ (l ++ rest)) (sym (replies-own step steps reply results)) in
          subst (λ (c : Past). tail ≡ map said c.tail ++ (replies_of_part part (step ∷ steps) (Ok reply ∷ results) ++ rest)) one
          (subst (λ (p : ℕ). tail ≡ map said n.cur.tail ++ (replies_of_part p (step ∷ steps) (Ok reply ∷ results) ++ rest)) (sym same) here)

      else_where : part ≢ step.part → tail ≡ map said cur.tail ++ (replies_of_part part (step ∷ steps) (Ok reply ∷ results) ++ rest)
      else_where other =
          let differs : step.part ≢ part = λ e. other (sym e) in
          let there : stepped limits n.entry.worker step (Ok reply) now part ≡ Some cur = rw is (ap Some (after-other limits n.entry.worker part step reply cur differs)) in
          behind cur there ∙ ap (λ (l : List Reply). map said cur.tail ++ (l ++ rest)) (sym (replies-other part step steps reply results differs))

  followed-on : (now : ℕ → Option Past) (step : Step) (steps : List Step) (results : List (Result Reply Refusal)) (n : Next final now step steps) → Followed final (stepped limits n.entry.worker step (Ok n.entry.reply) now) steps results → Followed final now (step ∷ steps) (Ok n.entry.reply ∷ results)
  followed-on now step steps results n f = record {
    whole = λ none part past cur is at. said-on now step steps results n part (map said past.tail) cur [] at (λ cur' there. f.whole none part past cur' is there);
    begun = λ part past cur is at. begun part past cur is at;
    refused = f.refused;
  }
    where
      begun : (part : ℕ) (past cur : Past) → final part ≡ Some past → now part ≡ Some cur → (rest : List Reply) × (map said past.tail ≡ map said cur.tail ++ (replies_of_part part (step ∷ steps) (Ok n.entry.reply ∷ results) ++ rest))
      begun part past cur is at = by_now (stepped limits n.entry.worker step (Ok n.entry.reply) now part) refl
        where
          there : stepped limits n.entry.worker step (Ok n.entry.reply) now part ≡ Some (past_after limits n.entry.worker part step (Ok n.entry.reply) cur)
          there = ap (option_map (past_after limits n.entry.worker part step (Ok n.entry.reply))) at

          by_now : (o : Option Past) → stepped limits n.entry.worker step (Ok n.entry.reply) now part ≡ o → (rest : List Reply) × (map said past.tail ≡ map said cur.tail ++ (replies_of_part part (step ∷ steps) (Ok n.entry.reply ∷ results) ++ rest))
          by_now None none = absurd (cc (none, there))
          by_now (Some cur') now_is =
              let b = f.begun part past cur' is now_is in
              (b.0, said-on now step steps results n part (map said past.tail) cur b.0 at (λ other is_other. let same : other ≡ cur' = cc (is_other, now_is) in rw same b.1))

  -- if the next step is refused, for lack of memory or of a cell
  followed-refused : (now : ℕ → Option Past) (step : Step) (steps : List Step) (e : Refusal) (results : List (Result Reply Refusal)) → Going final now (step ∷ steps) → (e ≡ OutOfMemory) ⊎ (e ≡ NoCell) → Followed final now (step ∷ steps) (Err e ∷ results)
  followed-refused now step steps e results going wants = record {
    whole = λ none part past cur is at. absurd (cc none);
    begun = λ part past cur is at. begun part past cur is at;
    refused = wants;
  }
    where
      begun : (part : ℕ) (past cur : Past) → final part ≡ Some past → now part ≡ Some cur → (rest : List Reply) × (map said past.tail ≡ map said cur.tail ++ ([] ++ rest))
      begun part past cur is at =
          let way = going part past is in
          let one : way.0 ≡ cur = cc (at, way.1) in
          (map said way.2.rest, rw (← one) (ap (map said) way.2.tails ∙ map-append said way.0.tail way.2.rest))

  follow : (now : ℕ → Option Past) (steps : List Step) (results : List (Result Reply Refusal)) → length results ≡ length steps → Outcomes limits splits now steps results → Going final now steps → AreThere final steps → Followed final now steps results
  follow now [] [] same outcomes going there = record {
    whole = λ none part past cur is at. over part past cur is at;
    begun = λ part past cur is at. ([], over part past cur is at);
    refused = tt;
  }
    where
      none-coming : (rest : List Entry) → [] ≡ map asked rest → rest ≡ []
      none-coming [] is = refl
      none-coming (e ∷ rest) is = absurd (cc is)

      over : (part : ℕ) (past cur : Past) → final part ≡ Some past → now part ≡ Some cur → map said past.tail ≡ map said cur.tail ++ ([] ++ [])
      over part past cur is at =
          let way = going part past is in
          let one : way.0 ≡ cur = cc (at, way.1) in
          rw (← one) (ap (map said) (way.2.tails ∙ ap (λ (l : List Entry). way.0.tail ++ l) (none-coming way.2.rest way.2.coming)) ∙ map-append said way.0.tail [])
  follow now [] (r ∷ results) same outcomes going there = absurd (omega (arith, same))
  follow now (step ∷ steps) [] same outcomes going there = absurd (omega (arith, same))
  follow now (step ∷ steps) (Ok reply ∷ results) same outcomes going there =
      let n = next final now step steps going there in
      let is : reply ≡ n.entry.reply = ⊎_elim (λ (e : Ok reply ≡ Ok n.entry.reply). cc e) (⊎_elim (λ (e : Ok reply ≡ Err OutOfMemory). cc e) (λ (e : Ok reply ≡ Err NoCell). cc e)) (comes now step steps (Ok reply) results n outcomes) in
      let ahead = outcomes-rest limits n.entry.worker splits now step steps (Ok reply) results outcomes in
      let on = follow (stepped limits n.entry.worker step (Ok n.entry.reply) now) steps results (omega (arith, same)) (subst (λ (r : Reply). Outcomes limits splits (stepped limits n.entry.worker step (Ok r) now) steps results) is ahead) (gone-on now step steps n going) there.1 in
      subst (λ (r : Reply). Followed final now (step ∷ steps) (Ok r ∷ results)) (sym is) (followed-on now step steps results n on)
  follow now (step ∷ steps) (Err e ∷ results) same outcomes going there =
      let n = next final now step steps going there in
      followed-refused now step steps e results going (⊎_elim (λ (r : Err e ≡ Ok n.entry.reply). cc r) (⊎_elim (λ (r : Err e ≡ Err OutOfMemory). inl (cc r)) (λ (r : Err e ≡ Err NoCell). inr (cc r))) (comes now step steps (Err e) results n outcomes))

pub repeats : (owner : ℕ → ℕ) (splits : List Bound) (limits : Limits) (parts : List WitnessedState) → All (λ (w : WitnessedState). IsWhole owner w) parts → AreParts splits limits (held_by parts) → Repeats splits limits (pasts_of owner parts)
repeats owner splits limits parts whole are steps results asks outcomes = record {
  whole = λ none part past is. f.whole none part past (at_base past) is (now-is part past is) ∙ append-nil (replies_of_part part steps results);
  begun = λ part past is. f.begun part past (at_base past) is (now-is part past is);
  refused = f.refused;
}
  where
    pasts : List Past
    pasts = pasts_of owner parts

    final : ℕ → Option Past
    final part = slice_get pasts part

    now : ℕ → Option Past
    now part = slice_get (map at_base pasts) part

    now-is : (part : ℕ) (past : Past) → final part ≡ Some past → now part ≡ Some (at_base past)
    now-is part past is = slice_get-map at_base pasts part ∙ ap (option_map at_base) is

    legal : AreLegal limits splits final
    legal part past is = by_part (slice_get parts part) refl
      where
        there : slice_get pasts part ≡ option_map (past_of owner) (slice_get parts part)
        there = slice_get-map (past_of owner) parts part

        by_part : (o : Option WitnessedState) → slice_get parts part ≡ o → IsLegal (keys_of_part splits part) limits past
        by_part None at = absurd (cc (is, there, at))
        by_part (Some w) at =
            let same : past_of owner w ≡ past = cc (is, there, at) in
            let within = slice_get_within parts part w at in
            let held_within : part < length (held_by parts) = omega (arith, within, length-map parts (λ (v : WitnessedState). v.held)) in
            let here : get_or parts part w ≡ w = get_or_from_slice_get parts part w w at in
            let held_here : get_or (held_by parts) part w.held ≡ w.held = get_or-map (λ (v : WitnessedState). v.held) parts part w w.held within ∙ ap (λ (v : WitnessedState). v.held) here in
            let legal_here : IsLegal w.held.keys w.held.limits (past_of owner w) = (subst (λ (v : WitnessedState). IsWhole owner v) here (whole part w within)).past in
            let keys : w.held.keys ≡ keys_of_part splits part = sym (ap (λ (p : Part). p.keys) held_here) ∙ are.keys part w.held held_within in
            let alike : w.held.limits ≡ limits = sym (ap (λ (p : Part). p.limits) held_here) ∙ are.alike part w.held held_within in
            rw (← same, ← keys, ← alike) legal_here

    going : Going final now steps
    going part past is = (at_base past, now-is part past is, record { rest = past.tail; base = refl; tails = refl; coming = asks.commands part past is })

    -- the outcomes of a core at the plain tables of the bases are those of partitions at the bases
    at-bases : Outcomes limits splits now steps results
    at-bases k job r at there = outcome-alike (bounds_from limits) splits
        (λ part. option_map (after_jobs limits part (take k (map Perform steps)) (take k (map (mapped Replied) results))) (slice_get (map table_at_base pasts) part))
        (λ part. option_map (λ (past : Past). after_jobs limits part (take k (map Perform steps)) (take k (map (mapped Replied) results)) (table_of_past past)) (now part))
        job r (λ part. alike k part) (outcomes.outcomes k job r at there)
      where
        by_past : (k part : ℕ) (o : Option Past) → option_map (after_jobs limits part (take k (map Perform steps)) (take k (map (mapped Replied) results))) (option_map table_at_base o) ≡ option_map (λ (past : Past). after_jobs limits part (take k (map Perform steps)) (take k (map (mapped Replied) results)) (table_of_past past)) (option_map at_base o)
        by_past k part None = refl
        by_past k part (Some past) = refl

        alike : (k part : ℕ) → option_map (after_jobs limits part (take k (map Perform steps)) (take k (map (mapped Replied) results))) (slice_get (map table_at_base pasts) part) ≡ option_map (λ (past : Past). after_jobs limits part (take k (map Perform steps)) (take k (map (mapped Replied) results)) (table_of_past past)) (now part)
        alike k part = rw (slice_get-map table_at_base pasts part, slice_get-map at_base pasts part) (by_past k part (slice_get pasts part))

    there-all : (some : List Step) → All (λ (step : Step). step.part < length pasts) some → AreThere final some
    there-all [] are_there = tt
    there-all (step ∷ some) are_there = (there step (are_there 0 step (omega arith)), there-all some (λ k d within. are_there (suc k) d (omega (arith, within))))
      where
        there : (s : Step) → s.part < length pasts → (past : Past) × (final s.part ≡ Some past)
        there s within = by_past (slice_get pasts s.part) refl
          where
            by_past : (o : Option Past) → slice_get pasts s.part ≡ o → (past : Past) × (final s.part ≡ Some past)
            by_past (Some past) is = (past, is)
            by_past None is = absurd (cc (is, slice_get-get_or pasts s.part (record { base = record { state = record { rows = []; next = 0 }; checkpointed = 0; placed = 0; gone = 0 }; tail = [] }) within))

    same : length results ≡ length steps
    same = sym (length-map results (mapped Replied)) ∙ outcomes.each ∙ length-map steps Perform

    f : Followed final now steps results
    f = follow limits splits final legal now steps results same at-bases going (there-all steps asks.there)
