use Rattle.std.proofs.Common.{◌≡◌, ℕ, List, ◌++◌, map, refl, subst}
use Rattle.std.specs.List.{concat}
use Rattle.crack_row.specs.declared.Bound.{Bound}
use Rattle.crack_plain.specs.Plain.{PlainView}
use Rattle.crack_commands.specs.Grammar.{Reading}
use Rattle.crack_core.specs.Steps.{Bounds, tables_of}
use Rattle.crack_session.specs.declared.answer.Answer.{Answer}
use Rattle.crack_session.specs.Answers.{answer_text}
use Rattle.crack_session.specs.Sessions.{AreAnswers}
use Rattle.crack_session.proofs.Known.{reported_if_known, answered_if_known}
use Rattle.crack_session_tests.proofs.one_core.serve_both.Goals as goal

-- answers over the bounds and splits that another desk has too
alike : (b b' : Bounds) (s s' : List Bound) (known left : List PlainView) (rs : List Reading) (answers : List Answer)
    → b ≡ b' → s ≡ s' → AreAnswers b s known rs answers left → AreAnswers b' s' known rs answers left
alike b b' s s' known left rs answers e f h =
    subst (λ (x : Bounds). AreAnswers x s' known rs answers left) e (subst (λ (x : List Bound). AreAnswers b x known rs answers left) f h)

pub returns-in-Ok-serve : goal.returns-in-Ok-serve
returns-in-Ok-serve g c = λ bytes more out e f h.
    let one = reported_if_known _ _ _ _ _ _ _ _ _ _ _ c.in-Ok.ensures.ends bytes out e h in
    let other = reported_if_known _ _ _ _ _ _ _ _ _ _ _ c.in-Ok-serve.ensures.ends more (out ++ concat (map answer_text one.answers)) f one.written_is in (
      tables_of c.serve.new.desk.parts,
      one.answers,
      other.answers,
      answered_if_known _ _ _ _ _ _ _ _ _ _ _ one _ _ refl refl,
      alike _ _ _ _ _ _ _ _ c.serve.ensures.bounds c.serve.ensures.splits (answered_if_known _ _ _ _ _ _ _ _ _ _ _ other _ _ refl refl),
      one.short_is,
      other.short_is,
      other.written_is,
    )
