use Rattle.std.proofs.Common.{◌∙◌, List, [], ap, refl, inr}
use Rattle.crack_row.specs.declared.Bound.{Bound}
use Rattle.crack_core.specs.Routes.{parts_of}
use Rattle.crack_session.proofs.Asking.{AsksParts-several}
use Rattle.crack_session.proofs.Calling.{ArePartsAsked-several}
use Rattle.crack_session.proofs.answer.ask_range.Goals as goal

pub returns-in-Some : goal.returns-in-Some
returns-in-Some g c =
    let one = rw c.splits.ensures.value at c.in-Some.ensures.one in
    let asked = c.ask_part.ensures in
    record {
      is = λ tables e. let said = asked.is tables e in (said.0, rw one (rw c.over.ensures at said.1), said.2);
      bounds_are = asked.bounds_are;
      splits_are = asked.splits_are;
      calls = asked.calls;
      were = asked.were;
      made = rw one (rw c.over.ensures at asked.made);
    }

pub returns-in-Ok : goal.returns-in-Ok
returns-in-Ok g c =
    let all = c.as_slice.ensures ∙ c.in-Ok.ensures.ok ∙ ap (λ (splits : List Bound). parts_of splits c.args.range) c.splits-2.ensures.value in
    let asked = c.ask_several.ensures in
    record {
      is = λ tables e. let said = asked.is tables e in (said.0, AsksParts-several _ (rw c.splits.ensures.value at c.in_default.ensures.several) (rw all at said.1), said.2);
      bounds_are = asked.bounds_are;
      splits_are = asked.splits_are;
      calls = asked.calls;
      were = asked.were;
      made = ArePartsAsked-several _ _ _ _ _ _ (rw c.splits.ensures.value at c.in_default.ensures.several) (rw all at asked.made);
    }

pub returns-in-Err : goal.returns-in-Err
returns-in-Err g c = record {
  is = λ tables e. (tables, AsksParts-several _ (rw c.splits.ensures.value at c.in_default.ensures.several) (inr (rw c.in-Err.ensures.err refl, refl)), e);
  bounds_are = refl;
  splits_are = refl;
  calls = [];
  were = refl;
  made = ArePartsAsked-several _ _ _ _ _ _ (rw c.splits.ensures.value at c.in_default.ensures.several) (inr (rw c.in-Err.ensures.err refl, refl));
}
