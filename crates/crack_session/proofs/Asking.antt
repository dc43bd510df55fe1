-- What is known of a desk whose partitions are asked in turn.
use Rattle.std.proofs.Common.{◌≡◌, ℕ, ◌<◌, List, [], ◌∷◌, ◌++◌, Option, Some, Result, length, refl, sym, subst, ◌∙◌, inl, inr, arith}
use Rattle.crack_row.specs.Ranges.{Range}
use Rattle.crack_row.specs.declared.Bound.{Bound}
use Rattle.crack_row.specs.declared.command.Policy.{Policy}
use Rattle.crack_row.specs.declared.command.Reply.{Reply}
use Rattle.crack_row.specs.declared.refusal.Refusal.{Refusal}
use Rattle.crack_row.specs.declared.refusal.Refusal.TheVariants.{OutOfMemory}
use Rattle.crack_plain.specs.Plain.{PlainView}
use Rattle.crack_session.specs.declared.answer.Answer.{Answer}
use Rattle.crack_session.specs.declared.answer.Answer.TheVariants.{Refused}
use Rattle.crack_core.specs.declared.turns.PartReply.{PartReply}
use Rattle.crack_core.specs.Asking.{InTurn, asking}
use Rattle.crack_core.proofs.TurnLaws.{turns-along}
use Rattle.crack_core.specs.declared.asking.Query.{Query}
use Rattle.crack_core.specs.Steps.{Bounds, IsOutcomeAt, tables_after}
use Rattle.crack_session.specs.Answers.{QueriesInTurn, AsksParts, answer_from}
use Rattle.crack_session.specs.Calls.{Call, Asked, Calls, AreSeveralAsked}
use Rattle.crack_session.specs.Queries.{joint_answer}
use Rattle.crack_session.specs.AskingDesks.{AsksDesk, AsksSeveral, AsksOnce}
use Rattle.crack_session.proofs.Calling.{Calls-push}

-- the desk that something lends, under this name, is asked in turn
module _ {S D N : Type 0} (bounds : D → Bounds) (splits : D → List Bound) (tables : D → Option (List PlainView)) (leads : D → Call → D → Type 0) (desk : S → D) (name : S → N) (policy : Policy) (query : Query) where
  -- one partition is asked for its part of a range
  abbrev AsksLent : ℕ × Range → Result Reply Refusal → S → S → Type 0
  AsksLent part outcome old new = (name new ≡ name old) × AsksOnce bounds splits tables leads part.0 (asking query part.1) policy outcome (desk old) (desk new)

  -- the rows afterwards, if those before are known
  lent-tables : (old : S) (known : List PlainView) (parts : List (ℕ × Range)) (result : Result (List PartReply) Refusal) (new : S) → tables (desk old) ≡ Some known → InTurn AsksLent old parts result new → (next : List PlainView) × QueriesInTurn (bounds (desk old)) (splits (desk old)) query known parts result next × (tables (desk new) ≡ Some next)
  lent-tables old known parts result new is asked =
      let all = turns-along AsksLent AsksPart Meets along old known parts result new (is, refl, refl) asked in
      (all.0, all.1, all.2.0)
    where
      AsksPart : ℕ × Range → Result Reply Refusal → List PlainView → List PlainView → Type 0
      AsksPart part outcome before after = IsOutcomeAt (bounds (desk old)) (splits (desk old)) before part.0 (asking query part.1) outcome × (after ≡ tables_after (bounds (desk old)) before part.0 (asking query part.1) outcome)

      Meets : S → List PlainView → Type 0
      Meets s rows = (tables (desk s) ≡ Some rows) × (bounds (desk s) ≡ bounds (desk old)) × (splits (desk s) ≡ splits (desk old))

      along : (part : ℕ × Range) (outcome : Result Reply Refusal) (s t : S) (rows : List PlainView) → Meets s rows → AsksLent part outcome s t → (next : List PlainView) × AsksPart part outcome rows next × Meets t next
      along part outcome s t rows meet asks =
          let once = asks.1 in (
            tables_after (bounds (desk old)) rows part.0 (asking query part.1) outcome,
            (rw (meet.1, meet.2) at once.comes_out rows meet.0, refl),
            (rw meet.1 at once.after rows meet.0, once.bounds_are ∙ meet.1, once.splits_are ∙ meet.2),
          )

  -- it was asked several partitions, and the name has stayed
  abbrev AreLent : List (ℕ × Range) → Answer → S → S → Type 0
  AreLent parts answer old new =
      AsksDesk bounds splits tables leads (λ bounds splits tables. AsksSeveral bounds splits tables query parts answer) (λ splits calls. AreSeveralAsked policy (λ range. asking query range) (λ replies. joint_answer query replies) parts answer calls) (desk old) (desk new)
      × (name new ≡ name old)

  -- in turn
  pub lent-asked : (old : S) (parts : List (ℕ × Range)) (outcome : Result (List PartReply) Refusal) (answer : Answer) (new : S) → InTurn AsksLent old parts outcome new → answer ≡ answer_from (joint_answer query) outcome → AreLent parts answer old new
  lent-asked old parts outcome answer new asked is =
      let all = turns-along AsksLent AsksPart Meets along old [] parts outcome new (refl, refl, refl, refl) asked in (
        record {
          is = λ known e. let next = lent-tables old known parts outcome new e asked in (next.0, inl (record { outcome = outcome; asked = next.1; answer_is = is }), next.2);
          bounds_are = all.2.2;
          splits_are = all.2.3;
          calls = all.0;
          were = all.2.0;
          made = inl (outcome, all.1, is);
        },
        all.2.1,
      )
    where
      AsksPart : ℕ × Range → Result Reply Refusal → List Call → List Call → Type 0
      AsksPart part outcome before after = after ≡ before ++ Asked part.0 (asking query part.1) policy outcome ∷ []

      Meets : S → List Call → Type 0
      Meets s calls = Calls leads (desk old) calls (desk s) × (name s ≡ name old) × (bounds (desk s) ≡ bounds (desk old)) × (splits (desk s) ≡ splits (desk old))

      along : (part : ℕ × Range) (outcome : Result Reply Refusal) (s t : S) (calls : List Call) → Meets s calls → AsksLent part outcome s t → (next : List Call) × AsksPart part outcome calls next × Meets t next
      along part outcome s t calls meet asks =
          let call = Asked part.0 (asking query part.1) policy outcome in (
            calls ++ call ∷ [],
            refl,
            (Calls-push leads (desk old) calls (desk s) call (desk t) meet.0 asks.1.led, asks.0 ∙ meet.1, asks.1.bounds_are ∙ meet.2, asks.1.splits_are ∙ meet.3),
          )

  -- or none, if there is no room for their replies
  pub lent-none : (old : S) (parts : List (ℕ × Range)) (answer : Answer) (new : S) → new ≡ old → answer ≡ Refused OutOfMemory → AreLent parts answer old new
  lent-none old parts answer new same is = subst (AreLent parts answer old) (sym same) (record { is = λ known e. (known, inr (is, refl), e); bounds_are = refl; splits_are = refl; calls = []; were = refl; made = inr (is, refl) }, refl)

-- more than one part
pub AsksParts-several : {bounds : Bounds} {splits : List Bound} {tables : List PlainView} {query : Query} (parts : List (ℕ × Range)) {answer : Answer} {new : List PlainView} → 1 < length parts → AsksSeveral bounds splits tables query parts answer new → AsksParts bounds splits tables query parts answer new
AsksParts-several [] many asked = asked
AsksParts-several (part ∷ []) many asked = absurd (omega (arith, many))
AsksParts-several (part ∷ next ∷ parts) many asked = asked
