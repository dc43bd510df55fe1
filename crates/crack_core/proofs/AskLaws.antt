-- What follows from asking a partition.
use Rattle.std.specs.Prelude.{◌≡◌, ◌≢◌, ◌⊎◌, ℕ, ◌<◌, ◌≤◌, ◌≤ℤ◌, ◌^◌, neg_ℤ, pos, All, Bool, true, false, ◌&&◌, not, List, [], ◌∷◌, length, Option, None, Some, Result, Ok, Err, IsOk, IfOk, IfErr, nat_le, slice_get, if◌then◌else◌}
use Rattle.std.specs.Option.{option_or}
use Rattle.std.proofs.Common.{arith, ap, refl, sym, subst, ◌∙◌, inl, inr}
use Rattle.std.proofs.lemmas.Bool.{true≢false}
use Rattle.crack_row.specs.Commands.{key_of}
use Rattle.crack_row.specs.Ranges.{Range}
use Rattle.crack_row.specs.declared.Bound.{Bound}
use Rattle.crack_row.specs.declared.command.Command.{Command}
use Rattle.crack_row.specs.declared.command.Policy.{Policy}
use Rattle.crack_row.specs.declared.command.Reply.{Reply}
use Rattle.std.proofs.lemmas.Int.{ints}
use Rattle.std.proofs.lemmas.List.Sums.{sum_by-le}
use Rattle.crack_row.specs.declared.command.Reply.TheVariants.{Placed, Gone, Changed, NoRow, Counted, Summed, Rows}
use Rattle.crack_row.specs.declared.limit.Limits.{Limits}
use Rattle.crack_row.specs.declared.refusal.Refusal.{Refusal}
use Rattle.crack_row.specs.declared.refusal.Refusal.TheVariants.{KeyOutside, HistoryFull, NoSuchPartition, OutOfMemory, NoCell, LifeOver}
use Rattle.crack_plain.specs.Plain.{PlainView, PlainState, accepted_of, IsSmall, reply_to}
use Rattle.crack_core.specs.declared.step.Step.{Step}
use Rattle.crack_core.specs.Routes.{keys_of_part, parts_of}
use Rattle.crack_core.specs.Cores.{CoreState}
use Rattle.crack_part.specs.Parts.{Part}
use Rattle.crack_part.specs.Refusals.{is_key_in}
use Rattle.crack_part.specs.Upkeep.{is_automatic, is_full}
use Rattle.crack_core.specs.Steps.{bounds_from, unless, MayLackCell, IsOutcome, tables_of}
use Rattle.crack_core.proofs.TurnLaws.{turns-along}
use Rattle.crack_core.specs.Asking.{step_at, Lasts, Asks, AsksCore, AsksEach, AsksInTurn, ReadsParts, counted, summed, total_rows}
use Rattle.crack_core.specs.declared.turns.PartReply.{PartReply}

-- a refusal
abbrev refused_with : Refusal → Result Reply Refusal
refused_with e = Err e

-- the expected answer, by the tests in turn
abbrev by_tests : Bool → Bool → Bool → ℕ → Reply → Result Reply Refusal
by_tests is_own is_full is_over limit said = unless (if is_own then option_or (if is_full then Some (HistoryFull limit) else (if is_over then Some LifeOver else None)) None else Some KeyOutside) said

abbrev Comes : Result Reply Refusal → Type 0 → Result Reply Refusal → Type 0
Comes wanted Lacks r = (r ≡ wanted) ⊎ (IsOk wanted × ((r ≡ Err OutOfMemory) ⊎ ((r ≡ Err NoCell) × Lacks)))

-- no refusal is an answer
no-ok : {X : Type 0} (e : Refusal) → IsOk (refused_with e) → X
no-ok e is = absurd (true≢false (sym is))

-- what is replied is the reply of plain rows
said-by : (limits : Limits) (keys : Range) (table : Option PlainView) (command : Command) (reply : Reply) → IsOutcome (bounds_from limits) keys table command (Ok reply) → (s : PlainState) × (reply ≡ reply_to s command)
said-by limits keys None command reply outcome = elim outcome [
  | inl is ↦ cc is
  | inr both ↦ no-ok NoSuchPartition both.0
]
said-by limits keys (Some t) command reply outcome = (t.state, by_test (is_key_in keys (key_of command)) (is_full limits t.since) (nat_le limits.life (accepted_of t)) outcome)
  where
    none : (x : Refusal) → Comes (refused_with x) (MayLackCell (bounds_from limits) (Some t) command) (Ok reply) → reply ≡ reply_to t.state command
    none x comes = elim comes [
      | inl is ↦ cc is
      | inr both ↦ no-ok x both.0
    ]

    by_test : (is_own full over : Bool) → Comes (by_tests is_own full over limits.history (reply_to t.state command)) (MayLackCell (bounds_from limits) (Some t) command) (Ok reply) → reply ≡ reply_to t.state command
    by_test false full over comes = none KeyOutside comes
    by_test true true over comes = none (HistoryFull limits.history) comes
    by_test true false true comes = none LifeOver comes
    by_test true false false comes = elim comes [
      | inl is ↦ cc is
      | inr both ↦ elim both.1 [
        | inl is ↦ cc is
        | inr lacks ↦ cc lacks.0
      ]
    ]

pub asks-said : (limits : Limits) (splits : List Bound) (step : Step) (reply : Reply) (old new : List Part) → Asks limits splits step (Ok reply) old new → (s : PlainState) × (reply ≡ reply_to s step.command)
asks-said limits splits step reply old new asks = said-by limits (keys_of_part splits step.part) (slice_get (tables_of old) step.part) step.command reply asks.comes_out

-- a refusal that is neither a full history's nor a lack of a cell
other-lasts : (limits : Limits) (table : Option PlainView) (r : Result Reply Refusal) (e : Refusal) → r ≡ Err e → ((entries : ℕ) → e ≢ HistoryFull entries) → e ≢ NoCell → Lasts limits table r
other-lasts limits table r e is not_full not_short = (λ entries full. not_full entries (refusal-is (sym is ∙ full)), λ lacks. absurd (not_short (refusal-is (sym is ∙ lacks))))
  where
    refusal-is : {x y : Refusal} → refused_with x ≡ refused_with y → x ≡ y
    refusal-is same = cc same

said-lasts : (limits : Limits) (table : Option PlainView) (r : Result Reply Refusal) (said : Reply) → r ≡ Ok said → Lasts limits table r
said-lasts limits table r said is = (λ entries full. refused (sym is ∙ full), λ lacks. absurd (refused (sym is ∙ lacks)))
  where
    refused : {e : Refusal} → Ok said ≡ refused_with e → ⊥
    refused same = cc same

-- under automatic upkeep no full history refuses, and a cell is missing only if there are as many rows as they may have cells
pub lasts-by : (limits : Limits) (keys : Range) (table : Option PlainView) (command : Command) (r : Result Reply Refusal) → is_automatic limits.upkeep ≡ true → IsOutcome (bounds_from limits) keys table command r → Lasts limits table r
lasts-by limits keys None command r automatic outcome = elim outcome [
  | inl is ↦ other-lasts limits None r NoSuchPartition is (λ entries same. cc same) (λ same. cc same)
  | inr both ↦ no-ok NoSuchPartition both.0
]
lasts-by limits keys (Some t) command r automatic outcome = by_test (is_key_in keys (key_of command)) (nat_le limits.life (accepted_of t)) (subst (λ (full : Bool). Comes (by_tests (is_key_in keys (key_of command)) full (nat_le limits.life (accepted_of t)) limits.history (reply_to t.state command)) (MayLackCell (bounds_from limits) (Some t) command) r) never outcome)
  where
    both-false : (b : Bool) → (b && false) ≡ false
    both-false true = refl
    both-false false = refl

    never : is_full limits t.since ≡ false
    never = ap (λ (b : Bool). nat_le limits.history t.since && not b) automatic ∙ both-false (nat_le limits.history t.since)

    rows : MayLackCell (bounds_from limits) (Some t) command → limits.cells ≤ length t.state.rows
    rows lacks = rw automatic at lacks.1

    none : (x : Refusal) → ((entries : ℕ) → x ≢ HistoryFull entries) → x ≢ NoCell → Comes (refused_with x) (MayLackCell (bounds_from limits) (Some t) command) r → Lasts limits (Some t) r
    none x not_full not_short comes = elim comes [
      | inl is ↦ other-lasts limits (Some t) r x is not_full not_short
      | inr both ↦ no-ok x both.0
    ]

    by_test : (is_own over : Bool) → Comes (by_tests is_own false over limits.history (reply_to t.state command)) (MayLackCell (bounds_from limits) (Some t) command) r → Lasts limits (Some t) r
    by_test false over comes = none KeyOutside (λ entries same. cc same) (λ same. cc same) comes
    by_test true true comes = none LifeOver (λ entries same. cc same) (λ same. cc same) comes
    by_test true false comes = elim comes [
      | inl is ↦ said-lasts limits (Some t) r (reply_to t.state command) is
      | inr both ↦ elim both.1 [
        | inl is ↦ other-lasts limits (Some t) r OutOfMemory is (λ entries same. cc same) (λ same. cc same)
        | inr lacks ↦ (λ entries full. cc (lacks.0, full), λ short. rows lacks.1)
      ]
    ]

-- a core that is as it was has the partitions that it had
pub parts-same : (r : Result Reply Refusal) (old new : CoreState) → IfErr r (λ e. e ≢ OutOfMemory → new ≡ old) → IfErr r (λ e. e ≢ OutOfMemory → new.parts ≡ old.parts)
parts-same (Ok reply) old new same = tt
parts-same (Err e) old new same = λ other. ap (λ (core : CoreState). core.parts) (same other)

-- a core's partitions are asked in turn
pub core-turns : (policy : Policy) (question : Range → Command) (old : CoreState) (parts : List (ℕ × Range)) (result : Result (List PartReply) Refusal) (new : CoreState) → AsksEach AsksCore policy question old parts result new → AsksInTurn old.limits old.splits policy question old.parts parts result new.parts × (new.splits ≡ old.splits) × (new.limits ≡ old.limits)
core-turns policy question old parts result new asked =
    let all = turns-along CoreAsks PartsAsk Meets along old old.parts parts result new (refl, refl, refl) asked in
    (subst (λ (ps : List Part). AsksInTurn old.limits old.splits policy question old.parts parts result ps) all.2.0 all.1, all.2.1, all.2.2)
  where
    CoreAsks : ℕ × Range → Result Reply Refusal → CoreState → CoreState → Type 0
    CoreAsks part outcome between after = AsksCore between part.0 (question part.1) policy outcome after

    PartsAsk : ℕ × Range → Result Reply Refusal → List Part → List Part → Type 0
    PartsAsk part outcome between after = Asks old.limits old.splits (step_at policy part.0 (question part.1)) outcome between after

    Meets : CoreState → List Part → Type 0
    Meets core ps = (ps ≡ core.parts) × (core.splits ≡ old.splits) × (core.limits ≡ old.limits)

    along : (part : ℕ × Range) (outcome : Result Reply Refusal) (between after : CoreState) (ps : List Part) → Meets between ps → CoreAsks part outcome between after → (next : List Part) × PartsAsk part outcome ps next × Meets after next
    along part outcome between after ps meet asks = (after.parts, rw (meet.0, ← meet.1, ← meet.2) asks.0, (refl, asks.1 ∙ meet.1, asks.2 ∙ meet.2))

-- the parts of a range were asked in turn, or none, for lack of memory
pub record AreAsked {X : Type 0} (items : X → List PartReply) (policy : Policy) (question : Range → Command) (range : Range) (old : CoreState) (result : Result X Refusal) (new : CoreState) : Type 0 where
  pub ok : IfOk result (λ x. AsksInTurn old.limits old.splits policy question old.parts (parts_of old.splits range) (Ok (items x)) new.parts)
  pub err : IfErr result (λ e. AsksInTurn old.limits old.splits policy question old.parts (parts_of old.splits range) (Err e) new.parts ⊎ ((e ≡ OutOfMemory) × (new.parts ≡ old.parts)))
  pub opened : (new.splits ≡ old.splits) × (new.limits ≡ old.limits)

pub are-asked : {X : Type 0} (items : X → List PartReply) (policy : Policy) (question : Range → Command) (range : Range) (old : CoreState) (parts : List (ℕ × Range)) (result : Result X Refusal) (new : CoreState) → parts ≡ parts_of old.splits range
    → IfOk result (λ x. AsksEach AsksCore policy question old parts (Ok (items x)) new)
    → IfErr result (λ e. AsksEach AsksCore policy question old parts (Err e) new ⊎ ((e ≡ OutOfMemory) × (new ≡ old)))
    → AreAsked items policy question range old result new
are-asked items policy question range old parts (Ok x) new is ok err =
    let all = core-turns policy question old parts (Ok (items x)) new ok in
    record { ok = subst (λ (ps : List (ℕ × Range)). AsksInTurn old.limits old.splits policy question old.parts ps (Ok (items x)) new.parts) is all.0; err = tt; opened = (all.1, all.2) }
are-asked items policy question range old parts (Err e) new is ok (inl asked) =
    let all = core-turns policy question old parts (Err e) new asked in
    record { ok = tt; err = inl (subst (λ (ps : List (ℕ × Range)). AsksInTurn old.limits old.splits policy question old.parts ps (Err e) new.parts) is all.0); opened = (all.1, all.2) }
are-asked items policy question range old parts (Err e) new is ok (inr none) = record {
  ok = tt;
  err = inr (none.0, ap (λ (core : CoreState). core.parts) none.1);
  opened = (ap (λ (core : CoreState). core.splits) none.1, ap (λ (core : CoreState). core.limits) none.1);
}

-- a range that one partition holds is read by asking this one
pub reads-one : {X : Type 0} (limits : Limits) (splits : List Bound) (policy : Policy) (question : Range → Command) (comes_to : List PartReply → X → Type 0) (range : Range) (part : ℕ) (reply : Reply) (x : X) (old new : List Part) → parts_of splits range ≡ (part, range) ∷ [] → Asks limits splits (step_at policy part (question range)) (Ok reply) old new → comes_to (record { part = part; reply = reply } ∷ []) x → ReadsParts limits splits policy question comes_to range (Ok x) old new
reads-one limits splits policy question comes_to range part reply x old new only asks comes =
    let said : List PartReply = record { part = part; reply = reply } ∷ [] in
    record {
      ok = (said, subst (λ (ps : List (ℕ × Range)). AsksInTurn limits splits policy question old ps (Ok said) new) (sym only) (inl (reply, new, asks, Ok [], (refl, refl), refl)), comes);
      err = tt;
    }

pub reads-one-refused : {X : Type 0} (limits : Limits) (splits : List Bound) (policy : Policy) (question : Range → Command) (comes_to : List PartReply → X → Type 0) (range : Range) (part : ℕ) (e : Refusal) (old new : List Part) → parts_of splits range ≡ (part, range) ∷ [] → Asks limits splits (step_at policy part (question range)) (Err e) old new → ReadsParts limits splits policy question comes_to range (Err e) old new
reads-one-refused limits splits policy question comes_to range part e old new only asks = record {
  ok = tt;
  err = inl (subst (λ (ps : List (ℕ × Range)). AsksInTurn limits splits policy question old ps (Err e) new) (sym only) (inr (e, asks, refl)));
}

-- what a small reply counts or lists
pub counted-small : (r : Reply) → IsSmall r → counted r ≤ 4294967295
counted-small (Placed serial) small = omega arith
counted-small (Gone row) small = omega arith
counted-small Changed small = omega arith
counted-small NoRow small = omega arith
counted-small (Counted count) small = omega (arith, small)
counted-small (Summed sum) small = omega arith
counted-small (Rows rows) small = omega (arith, small)

-- and its sum
pub summed-small : (r : Reply) → IsSmall r → (neg_ℤ (pos (2 ^ 96)) ≤ℤ summed r) × (summed r ≤ℤ pos (2 ^ 96))
summed-small (Placed serial) small = (omega (arith, ints), omega (arith, ints))
summed-small (Gone row) small = (omega (arith, ints), omega (arith, ints))
summed-small Changed small = (omega (arith, ints), omega (arith, ints))
summed-small NoRow small = (omega (arith, ints), omega (arith, ints))
summed-small (Counted count) small = (omega (arith, ints), omega (arith, ints))
summed-small (Summed sum) small = (omega (arith, ints, small.0), omega (arith, ints, small.1))
summed-small (Rows rows) small = (omega (arith, ints), omega (arith, ints))

-- few small replies fit together
pub total_rows-fit : (replies : List PartReply) → All (λ (r : PartReply). IsSmall r.reply) replies → length replies ≤ 64 → total_rows replies < 2 ^ 64
total_rows-fit replies small few =
    let most = sum_by-le (λ (r : PartReply). counted r.reply) 4294967295 replies (λ i d below. counted-small _ (small i d below)) in
    omega (arith, most, few)
