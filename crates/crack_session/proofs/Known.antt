-- What a session has answered and written, over devices whose bytes are known.
use Rattle.std.proofs.Common.{◌≡◌, ℕ, Option, Some, None, List, ◌++◌, map, sym, ap, ◌∙◌, subst}
use Rattle.std.specs.List.{concat}
use Rattle.std.specs.Io.KnownBytes.{Appends}
use Rattle.crack_row.specs.declared.Bound.{Bound}
use Rattle.crack_row.specs.declared.command.Policy.{Policy}
use Rattle.crack_plain.specs.Plain.{PlainView}
use Rattle.crack_core.specs.Steps.{Bounds}
use Rattle.crack_session.specs.declared.answer.Answer.{Answer}
use Rattle.crack_session.specs.declared.session.SessionEnd.{SessionEnd}
use Rattle.crack_session.specs.Answers.{answer_text}
use Rattle.crack_session.specs.Calls.{Call}
use Rattle.crack_session.specs.Readings.{statements}
use Rattle.crack_session.specs.Serving.{AreAllAnswered, IsServed}
use Rattle.crack_session.specs.Sessions.{AreAnswers, first_short}

-- known bytes, and what is appended to them
known_appended : (a b : Option (List ℕ)) (xs o : List ℕ) → Appends a b xs → a ≡ Some o → b ≡ Some (o ++ xs)
known_appended None b xs o h e = absurd (let both : ◌≡◌ {A = Option (List ℕ)} None (Some o) = e in cc)
known_appended (Some x) None xs o h e = absurd h
known_appended (Some x) (Some y) xs o h e = let same : x ≡ o = cc e in ap Some (h ∙ ap (λ z. z ++ xs) same)

-- All statements of the reader's bytes are answered, and the texts of the answers follow what was written before.
pub record IsReported {D : Type 0} (bounds : D → Bounds) (splits : D → List Bound) (tables : D → Option (List PlainView)) (leads : D → Call → D → Type 0) (policy : Policy) (old new : D) (bytes out : List ℕ) (written : Option (List ℕ)) (end : SessionEnd) : Type 0 where
  pub answers : List Answer
  pub are : AreAllAnswered bounds splits tables leads policy old new (statements bytes) answers
  pub short_is : end.first_short ≡ first_short answers
  pub written_is : written ≡ Some (out ++ concat (map answer_text answers))

pub reported_if_known : {D : Type 0} (bounds : D → Bounds) (splits : D → List Bound) (tables : D → Option (List PlainView)) (leads : D → Call → D → Type 0) (policy : Policy) (old new : D) (known out written : Option (List ℕ)) (end : SessionEnd) → IsServed bounds splits tables leads policy old new known out written end
    → (bytes before : List ℕ) → known ≡ Some bytes → out ≡ Some before → IsReported bounds splits tables leads policy old new bytes before written end
reported_if_known bounds splits tables leads policy old new known out written end s bytes before e f =
    record {
      answers = s.answers;
      are = subst (λ (b : List ℕ). AreAllAnswered bounds splits tables leads policy old new (statements b) s.answers) (s.bytes_are bytes e) s.are;
      short_is = s.short_is;
      written_is = known_appended out written _ before s.written_is f;
    }

some_same : {xs ys : List PlainView} → ◌≡◌ {A = Option (List PlainView)} (Some xs) (Some ys) → xs ≡ ys
some_same e = cc e

-- and if the rows are known, these are their answers
pub answered_if_known : {D : Type 0} (bounds : D → Bounds) (splits : D → List Bound) (tables : D → Option (List PlainView)) (leads : D → Call → D → Type 0) (policy : Policy) (old new : D) (bytes out : List ℕ) (written : Option (List ℕ)) (end : SessionEnd) (told : IsReported bounds splits tables leads policy old new bytes out written end)
    → (known left : List PlainView) → tables old ≡ Some known → tables new ≡ Some left → AreAnswers (bounds old) (splits old) known (statements bytes) told.answers left
answered_if_known bounds splits tables leads policy old new bytes out written end told known left e f =
    let next = told.are.if_known known e in
    subst (λ (z : List PlainView). AreAnswers (bounds old) (splits old) known (statements bytes) told.answers z) (some_same (sym next.2 ∙ f)) next.1
