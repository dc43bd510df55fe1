-- The answers to a worker are in the histories, once it is gathered.
use Rattle.std.proofs.Common.{slice_index_or, ◌≡◌, ◌≢◌, ℕ, ◌<◌, ◌≤◌, ◌==◌, Bool, true, false, nat_lt, List, [], ◌∷◌, ◌++◌, length, get_or, Some, Ok, Err, refl, sym, ap, ◌∙◌, subst, arith, append_assoc, append-nil, length-append}
use Rattle.std.specs.Prelude.{All}
use Rattle.std.specs.List.{slice_get}
use Rattle.std.proofs.lemmas.Bool.Decides.{nat_tests}
use Rattle.std.proofs.lemmas.List.{get_or-set_same, get_or-set_other, get_or_past, length-set, length-map, get_or-map, get_or_default}
use Rattle.std.proofs.lemmas.List.Elements.{filter-append, All-contains, All-map}
use Rattle.std.proofs.lemmas.Option.{slice_get_read}
use mathlib.Core.List.{IsPrefix}
use Rattle.crack_row.specs.declared.command.Command.{Command}
use Rattle.crack_row.specs.declared.command.Entry.{Entry}
use Rattle.crack_row.specs.declared.command.Policy.{Policy}
use Rattle.crack_row.specs.declared.command.Reply.{Reply}
use Rattle.crack_session.specs.Calls.{Call, Asked, Checkpointed, Looked, Measured, Surveyed, Calls}
use Rattle.crack_table.specs.Tables.{TableState}
use Rattle.crack_witness.specs.declared.event.Event.{Event}
use Rattle.crack_plain.specs.Plain.{AreReplies, no_rows}
use Rattle.crack_witness.specs.Histories.{history_of, calls_by, calls_at}
use Rattle.crack_witness.specs.Witnesses.{WorkerState, WitnessedState, HasSeen}
use Rattle.crack_witness.proofs.Lists.{history_append, prefix_trans}
use Rattle.crack_table.specs.Asking.{AsksTable}
use Rattle.crack_table.specs.Audits.{histories_of}
use Rattle.crack_worker_desk.specs.Histories.{entries_at, StandIn, IsGathered}
use Rattle.crack_worker_desk.proofs.Holding.{worker_leads}

-- an answer of a partition is the next entry for it, and none for another
entries_own : (worker p part : ℕ) (c : Command) (r : Reply) (policy : Policy) (calls : List Call) → (p == part) ≡ true → entries_at worker part (Asked p c policy (Ok r) ∷ calls) ≡ record { worker = worker; command = c; reply = r } ∷ entries_at worker part calls
entries_own worker p part c r policy calls is = rw is refl

entries_other : (worker p part : ℕ) (c : Command) (r : Reply) (policy : Policy) (calls : List Call) → (p == part) ≡ false → entries_at worker part (Asked p c policy (Ok r) ∷ calls) ≡ entries_at worker part calls
entries_other worker p part c r policy calls is = rw is refl

either : {X : Type 0} (b : Bool) → (b ≡ true → X) → (b ≡ false → X) → X
either true so not = so refl
either false so not = not refl

-- the entries of a worker that were seen grow with the events that were seen
grows : (owner : ℕ → ℕ) (part worker : ℕ) (xs ys : List Event) → IsPrefix xs ys → (more : List Entry) × (calls_at owner part worker ys ≡ calls_at owner part worker xs ++ more)
grows owner part worker xs ys p = (
  calls_at owner part worker p.0,
  ap (calls_at owner part worker) (sym p.1) ∙ ap (calls_by worker) (history_append (owner part) xs p.0) ∙ filter-append (λ (e : Entry). e.worker == worker) (history_of (owner part) xs) (history_of (owner part) p.0),
)

empty : (xs : List Entry) → length xs ≤ 0 → xs ≡ []
empty [] none = refl
empty (x ∷ xs) none = absurd (omega (arith, none))

longer : (xs ys zs : List Entry) → zs ≡ xs ++ ys → 0 < length xs → 0 < length zs
longer xs ys zs e some = let l = ap length e in let m = length-append xs ys in omega (arith, l, m, some)

module _ (owner : ℕ → ℕ) (table : TableState) (may : ℕ → ℕ → Type 0) where
  abbrev Led : WorkerState → List Call → WorkerState → Type 0
  Led old calls new = Calls (worker_leads owner table may) old calls new

  pub worker-stays : (calls : List Call) (old new : WorkerState) → Led old calls new → new.worker ≡ old.worker
  worker-stays [] old new were = ap (λ (a : WorkerState). a.worker) were
  worker-stays (Asked part command policy outcome ∷ calls) old new were = worker-stays calls were.0 new were.2 ∙ were.1.worker
  worker-stays (Checkpointed part outcome ∷ calls) old new were = worker-stays calls were.0 new were.2 ∙ ap (λ (a : WorkerState). a.worker) were.1.1
  worker-stays (Looked part outcome ∷ calls) old new were = worker-stays calls were.0 new were.2 ∙ ap (λ (a : WorkerState). a.worker) were.1.1
  worker-stays (Measured part outcome ∷ calls) old new were = worker-stays calls were.0 new were.2 ∙ ap (λ (a : WorkerState). a.worker) were.1.1
  worker-stays (Surveyed traffic ∷ calls) old new were = worker-stays calls were.0 new were.2 ∙ ap (λ (a : WorkerState). a.worker) were.1.1

  pub seen-grows : (calls : List Call) (old new : WorkerState) → Led old calls new → IsPrefix old.seen new.seen
  seen-grows [] old new were = ([], append-nil old.seen ∙ ap (λ (a : WorkerState). a.seen) (sym were))
  seen-grows (Asked part command policy outcome ∷ calls) old new were = prefix_trans old.seen were.0.seen new.seen were.1.seen (seen-grows calls were.0 new were.2)
  seen-grows (Checkpointed part outcome ∷ calls) old new were = subst (λ (a : WorkerState). IsPrefix a.seen new.seen) were.1.1 (seen-grows calls were.0 new were.2)
  seen-grows (Looked part outcome ∷ calls) old new were = subst (λ (a : WorkerState). IsPrefix a.seen new.seen) were.1.1 (seen-grows calls were.0 new were.2)
  seen-grows (Measured part outcome ∷ calls) old new were = subst (λ (a : WorkerState). IsPrefix a.seen new.seen) were.1.1 (seen-grows calls were.0 new were.2)
  seen-grows (Surveyed traffic ∷ calls) old new were = subst (λ (a : WorkerState). IsPrefix a.seen new.seen) were.1.1 (seen-grows calls were.0 new were.2)

  -- only partitions of the table answer
  pub answers-there : (part worker : ℕ) (calls : List Call) (old new : WorkerState) → Led old calls new → 0 < length (entries_at worker part calls) → part ≤ length table.splits
  answers-there part worker [] old new were some = absurd (omega (arith, some))
  answers-there part worker (Asked p command policy (Err e) ∷ calls) old new were some = answers-there part worker calls were.0 new were.2 some
  answers-there part worker (Asked p command policy (Ok reply) ∷ calls) old new were some = either (p == part)
      (λ is. let here = were.1.at.there in grind (arith, nat_tests))
      (λ is. answers-there part worker calls were.0 new were.2 (subst (λ (l : List Entry). 0 < length l) (entries_other worker p part command reply policy calls is) some))
  answers-there part worker (Checkpointed p outcome ∷ calls) old new were some = answers-there part worker calls were.0 new were.2 some
  answers-there part worker (Looked p outcome ∷ calls) old new were some = answers-there part worker calls were.0 new were.2 some
  answers-there part worker (Measured p outcome ∷ calls) old new were some = answers-there part worker calls were.0 new were.2 some
  answers-there part worker (Surveyed traffic ∷ calls) old new were some = answers-there part worker calls were.0 new were.2 some

  -- the answers of a partition are in the part of its history that was seen
  pub answers-seen : (part : ℕ) (calls : List Call) (old new : WorkerState) → Led old calls new → 0 < length (entries_at old.worker part calls) → 0 < length (calls_at owner part old.worker new.seen)
  answers-seen part [] old new were some = absurd (omega (arith, some))
  answers-seen part (Asked p command policy (Err e) ∷ calls) old new were some =
      subst (λ (n : ℕ). 0 < length (calls_at owner part n new.seen)) were.1.worker (answers-seen part calls were.0 new were.2 (subst (λ (n : ℕ). 0 < length (entries_at n part calls)) (sym were.1.worker) some))
  answers-seen part (Asked p command policy (Ok reply) ∷ calls) old new were some = either (p == part)
      (λ is.
      let same : p ≡ part = grind (arith, nat_tests) in
      let more = grows owner part old.worker were.0.seen new.seen (seen-grows calls were.0 new were.2) in
      let seen_events = calls_at owner part old.worker (slice_index_or old.seen_by_part part []) in
      let here : calls_at owner part old.worker were.0.seen ≡ seen_events ++ record { worker = old.worker; command = command; reply = reply } ∷ [] = subst (λ (q : ℕ). calls_at owner q old.worker were.0.seen ≡ calls_at owner q old.worker (slice_index_or old.seen_by_part q []) ++ record { worker = old.worker; command = command; reply = reply } ∷ []) same were.1.mine in
      let l = ap length here in
      let m = length-append seen_events (record { worker = old.worker; command = command; reply = reply } ∷ []) in
      longer (calls_at owner part old.worker were.0.seen) more.0 (calls_at owner part old.worker new.seen) more.1 (omega (arith, l, m)))
      (λ is. subst (λ (n : ℕ). 0 < length (calls_at owner part n new.seen)) were.1.worker (answers-seen part calls were.0 new were.2 (subst (λ (n : ℕ). 0 < length (entries_at n part calls)) (sym were.1.worker) (subst (λ (l : List Entry). 0 < length l) (entries_other old.worker p part command reply policy calls is) some))))
  answers-seen part (Checkpointed p outcome ∷ calls) old new were some =
      subst (λ (a : WorkerState). 0 < length (calls_at owner part a.worker new.seen)) were.1.1 (answers-seen part calls were.0 new were.2 (subst (λ (a : WorkerState). 0 < length (entries_at a.worker part calls)) (sym were.1.1) some))
  answers-seen part (Looked p outcome ∷ calls) old new were some =
      subst (λ (a : WorkerState). 0 < length (calls_at owner part a.worker new.seen)) were.1.1 (answers-seen part calls were.0 new were.2 (subst (λ (a : WorkerState). 0 < length (entries_at a.worker part calls)) (sym were.1.1) some))
  answers-seen part (Measured p outcome ∷ calls) old new were some =
      subst (λ (a : WorkerState). 0 < length (calls_at owner part a.worker new.seen)) were.1.1 (answers-seen part calls were.0 new were.2 (subst (λ (a : WorkerState). 0 < length (entries_at a.worker part calls)) (sym were.1.1) some))
  answers-seen part (Surveyed traffic ∷ calls) old new were some =
      subst (λ (a : WorkerState). 0 < length (calls_at owner part a.worker new.seen)) were.1.1 (answers-seen part calls were.0 new were.2 (subst (λ (a : WorkerState). 0 < length (entries_at a.worker part calls)) (sym were.1.1) some))

  -- the entries of a partition that a worker knows: those seen after its last reply there
  abbrev pub seen_at : ℕ → WorkerState → List Entry
  seen_at part a = calls_at owner part a.worker (slice_index_or a.seen_by_part part [])

  -- an answer is one more entry there, and nothing for another partition
  seen_events-own : (part p : ℕ) (command : Command) (reply : Reply) (old new : WorkerState) → part < length old.seen_by_part → p ≡ part → AsksTable owner table (may p) p command (Ok reply) old new → seen_at part new ≡ seen_at part old ++ record { worker = old.worker; command = command; reply = reply } ∷ []
  seen_events-own part p command reply old new known same asks =
      let there : slice_index_or new.seen_by_part p [] ≡ new.seen = ap (λ (l : List (List Event)). slice_index_or l p []) asks.seen_by_part ∙ get_or-set_same old.seen_by_part p new.seen [] (subst (λ (q : ℕ). q < length old.seen_by_part) (sym same) known) in
      subst (λ (q : ℕ). seen_at q new ≡ seen_at q old ++ record { worker = old.worker; command = command; reply = reply } ∷ []) same
      (ap (λ (l : List Event). calls_at owner p new.worker l) there ∙ ap (λ (n : ℕ). calls_at owner p n new.seen) asks.worker ∙ asks.mine)

  seen_events-other : (part p : ℕ) (command : Command) (reply : Reply) (old new : WorkerState) → part ≢ p → AsksTable owner table (may p) p command (Ok reply) old new → seen_at part new ≡ seen_at part old
  seen_events-other part p command reply old new apart asks =
      ap (λ (n : ℕ). calls_at owner part n (slice_index_or new.seen_by_part part [])) asks.worker
      ∙ ap (λ (l : List (List Event)). calls_at owner part old.worker (slice_index_or l part [])) asks.seen_by_part
      ∙ ap (λ (l : List Event). calls_at owner part old.worker l) (get_or-set_other old.seen_by_part p part new.seen [] apart)

  unknown : (part : ℕ) (a : WorkerState) → length a.seen_by_part ≤ part → seen_at part a ≡ []
  unknown part a past = ap (calls_at owner part a.worker) (get_or_past a.seen_by_part part [] past)

  seen_by_part-many : (p : ℕ) (command : Command) (reply : Reply) (old new : WorkerState) → AsksTable owner table (may p) p command (Ok reply) old new → length new.seen_by_part ≡ length old.seen_by_part
  seen_by_part-many p command reply old new asks = ap length asks.seen_by_part ∙ length-set old.seen_by_part p new.seen

  pub seen_by_part-stay : (calls : List Call) (old new : WorkerState) → Led old calls new → length new.seen_by_part ≡ length old.seen_by_part
  seen_by_part-stay [] old new were = ap (λ (a : WorkerState). length a.seen_by_part) were
  seen_by_part-stay (Asked p command policy (Ok reply) ∷ calls) old new were = seen_by_part-stay calls were.0 new were.2 ∙ seen_by_part-many p command reply old were.0 were.1
  seen_by_part-stay (Asked p command policy (Err e) ∷ calls) old new were = seen_by_part-stay calls were.0 new were.2 ∙ ap (λ (a : WorkerState). length a.seen_by_part) were.1.err
  seen_by_part-stay (Checkpointed p outcome ∷ calls) old new were = seen_by_part-stay calls were.0 new were.2 ∙ ap (λ (a : WorkerState). length a.seen_by_part) were.1.1
  seen_by_part-stay (Looked p outcome ∷ calls) old new were = seen_by_part-stay calls were.0 new were.2 ∙ ap (λ (a : WorkerState). length a.seen_by_part) were.1.1
  seen_by_part-stay (Measured p outcome ∷ calls) old new were = seen_by_part-stay calls were.0 new were.2 ∙ ap (λ (a : WorkerState). length a.seen_by_part) were.1.1
  seen_by_part-stay (Surveyed traffic ∷ calls) old new were = seen_by_part-stay calls were.0 new were.2 ∙ ap (λ (a : WorkerState). length a.seen_by_part) were.1.1

  -- a worker's entries there are those before, and then exactly its answers
  pub seen_by_part-go : (part : ℕ) (calls : List Call) (old new : WorkerState) → Led old calls new → part < length old.seen_by_part → seen_at part new ≡ seen_at part old ++ entries_at old.worker part calls
  seen_by_part-go part [] old new were known = ap (seen_at part) were ∙ sym (append-nil (seen_at part old))
  seen_by_part-go part (Asked p command policy (Ok reply) ∷ calls) old new were known =
      let more : seen_at part new ≡ seen_at part were.0 ++ entries_at old.worker part calls = subst (λ (n : ℕ). seen_at part new ≡ seen_at part were.0 ++ entries_at n part calls) were.1.worker (seen_by_part-go part calls were.0 new were.2 (subst (λ (n : ℕ). part < n) (sym (seen_by_part-many p command reply old were.0 were.1)) known)) in
      either (p == part)
      (λ is. more ∙ ap (λ (l : List Entry). l ++ entries_at old.worker part calls) (seen_events-own part p command reply old were.0 known (grind (arith, nat_tests)) were.1)
      ∙ append_assoc (seen_at part old) (record { worker = old.worker; command = command; reply = reply } ∷ []) (entries_at old.worker part calls)
      ∙ ap (λ (l : List Entry). seen_at part old ++ l) (sym (entries_own old.worker p part command reply policy calls is)))
      (λ is. more ∙ ap (λ (l : List Entry). l ++ entries_at old.worker part calls) (seen_events-other part p command reply old were.0 (grind (arith, nat_tests)) were.1)
      ∙ ap (λ (l : List Entry). seen_at part old ++ l) (sym (entries_other old.worker p part command reply policy calls is)))
  seen_by_part-go part (Asked p command policy (Err e) ∷ calls) old new were known =
      subst (λ (a : WorkerState). seen_at part new ≡ seen_at part a ++ entries_at a.worker part calls) were.1.err (seen_by_part-go part calls were.0 new were.2 (subst (λ (a : WorkerState). part < length a.seen_by_part) (sym were.1.err) known))
  seen_by_part-go part (Checkpointed p outcome ∷ calls) old new were known =
      subst (λ (a : WorkerState). seen_at part new ≡ seen_at part a ++ entries_at a.worker part calls) were.1.1 (seen_by_part-go part calls were.0 new were.2 (subst (λ (a : WorkerState). part < length a.seen_by_part) (sym were.1.1) known))
  seen_by_part-go part (Looked p outcome ∷ calls) old new were known =
      subst (λ (a : WorkerState). seen_at part new ≡ seen_at part a ++ entries_at a.worker part calls) were.1.1 (seen_by_part-go part calls were.0 new were.2 (subst (λ (a : WorkerState). part < length a.seen_by_part) (sym were.1.1) known))
  seen_by_part-go part (Measured p outcome ∷ calls) old new were known =
      subst (λ (a : WorkerState). seen_at part new ≡ seen_at part a ++ entries_at a.worker part calls) were.1.1 (seen_by_part-go part calls were.0 new were.2 (subst (λ (a : WorkerState). part < length a.seen_by_part) (sym were.1.1) known))
  seen_by_part-go part (Surveyed traffic ∷ calls) old new were known =
      subst (λ (a : WorkerState). seen_at part new ≡ seen_at part a ++ entries_at a.worker part calls) were.1.1 (seen_by_part-go part calls were.0 new were.2 (subst (λ (a : WorkerState). part < length a.seen_by_part) (sym were.1.1) known))

  first_of : (parts : List WitnessedState) (k : ℕ) → k < length parts → WitnessedState
  first_of [] k less = absurd (omega (arith, less))
  first_of (w ∷ ws) k less = w

  module _ (parts : List WitnessedState) (last : WorkerState) (gathered : IsGathered owner table parts last) where
    -- a partition of the table, and its history, as they were gathered
    found : (part : ℕ) → part ≤ length table.splits → (w : WitnessedState) × (w.part ≡ part) × (slice_index_or (histories_of owner parts) part [] ≡ history_of (owner w.part) w.log) × HasSeen owner last w
    found part there =
        let count = gathered.2.tables.count in
        let less : part < length parts = omega (arith, there, count, length-map parts (λ (w : WitnessedState). w.held)) in
        let w = get_or parts part (first_of parts part less) in
        let is : slice_get parts part ≡ Some w = slice_get_read parts (length parts) part w refl less (get_or_default parts part (first_of parts part less) w less) in (
          w,
          (gathered.2.numbered part w is).0,
          get_or-map (λ (v : WitnessedState). history_of (owner v.part) v.log) parts part (first_of parts part less) [] less,
          All-contains (λ (a : WorkerState). HasSeen owner a w) gathered.0 last (gathered.2.agree part (first_of parts part less) less) gathered.1,
        )

    legal : All (AreReplies no_rows) (histories_of owner parts)
    legal = All-map (AreReplies no_rows) (λ (v : WitnessedState). history_of (owner v.part) v.log) parts (λ k d less. (gathered.2.whole k d less).legal (owner (get_or parts k d).part))

    stand-some : (calls later : List Call) (old new : WorkerState) → Led old calls new → Led new later last → (part : ℕ) → 0 < length (entries_at old.worker part calls)
        → calls_by old.worker (slice_index_or (histories_of owner parts) part []) ≡ seen_at part old ++ entries_at old.worker part calls ++ entries_at old.worker part later
    stand-some calls later old new were goes part some =
        let one = found part (answers-there part old.worker calls old new were some) in
        let same : last.worker ≡ old.worker = worker-stays later new last goes ∙ worker-stays calls old new were in
        let whole : calls_at owner part old.worker one.0.log ≡ seen_at part last =
        subst (λ (n : ℕ). calls_at owner part n one.0.log ≡ seen_at part last) same (subst (λ (q : ℕ). calls_at owner q last.worker one.0.log ≡ seen_at q last) one.1 one.3.mine) in
        let seen_by_part : length last.seen_by_part ≡ length old.seen_by_part = seen_by_part-stay later new last goes ∙ seen_by_part-stay calls old new were in
        let more = grows owner part old.worker new.seen last.seen (seen-grows later new last goes) in
        let seen : 0 < length (calls_at owner part old.worker last.seen) = longer (calls_at owner part old.worker new.seen) more.0 (calls_at owner part old.worker last.seen) more.1 (answers-seen part calls old new were some) in
        let covered = subst (λ (q : ℕ). IsPrefix (history_of (owner q) last.seen) (history_of (owner q) one.0.log)) one.1 one.3.covered in
        let there : 0 < length (calls_at owner part old.worker one.0.log) = longer (calls_at owner part old.worker last.seen) (calls_by old.worker covered.0) (calls_at owner part old.worker one.0.log)
        (ap (calls_by old.worker) (sym covered.1) ∙ filter-append (λ (e : Entry). e.worker == old.worker) (history_of (owner part) last.seen) covered.0) seen in
        let known : part < length old.seen_by_part = either (nat_lt part (length old.seen_by_part)) (λ is. grind (arith, nat_tests))
        (λ is. let none = ap length (whole ∙ unknown part last (let past : length old.seen_by_part ≤ part = grind (arith, nat_tests) in omega (arith, past, seen_by_part))) in absurd (omega (arith, there, none))) in
        ap (calls_by old.worker) (one.2 ∙ ap (λ (q : ℕ). history_of (owner q) one.0.log) one.1) ∙ whole
        ∙ seen_by_part-go part later new last goes (subst (λ (n : ℕ). part < n) (sym (seen_by_part-stay calls old new were)) known)
        ∙ ap (λ (n : ℕ). seen_at part new ++ entries_at n part later) (worker-stays calls old new were)
        ∙ ap (λ (l : List Entry). l ++ entries_at old.worker part later) (seen_by_part-go part calls old new were known)

    pub stands : (calls later : List Call) (old new : WorkerState) → Led old calls new → Led new later last → StandIn owner parts old.worker calls
    stands calls later old new were goes = record {
      legal = legal;
      stand = λ part. either (nat_lt 0 (length (entries_at old.worker part calls)))
          (λ is. (seen_at part old, entries_at old.worker part later, stand-some calls later old new were goes part (grind (arith, nat_tests))))
          (λ is.
          let here = calls_by old.worker (slice_index_or (histories_of owner parts) part []) in
          let none : entries_at old.worker part calls ≡ [] = empty (entries_at old.worker part calls) (grind (arith, nat_tests)) in
          (here, [], sym (append-nil here) ∙ sym (append-nil (here ++ [])) ∙ ap (λ (l : List Entry). here ++ l ++ []) (sym none)));
    }
