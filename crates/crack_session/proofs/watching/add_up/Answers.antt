use Rattle.std.proofs.Common.{◌≡◌, ◌+◌, ◌≤◌, ◌<◌, ℕ, Ok, Err, List, [], ◌∷◌, ◌++◌, length, arith, refl, sym, ap, subst}
use Rattle.std.proofs.lemmas.List.{take_all}
use Rattle.crack_plain.specs.Plain.{PlainView}
use Rattle.crack_session.specs.Answers.{AreNumbersOfEach}
use Rattle.crack_session.specs.Calls.{Measured, measured_from}
use Rattle.crack_session.proofs.Adding.{HaveReported-none, HaveReported-more, never_refused}
use Rattle.crack_session.proofs.Calling.{Calls-push}
use Rattle.crack_session.proofs.watching.add_up.Goals as goal

pub parts-init : goal.parts-init
parts-init g c = record { reported = HaveReported-none g.D.Desk.tables g.D.Desk.leads _ _ c.none-sum.ensures }

pub parts-preserved : goal.parts-preserved
parts-preserved g c = record {
  reported = HaveReported-more g.D.Desk.tables g.D.Desk.leads _ c.parts.number _ c.in-Ok.one _ c.parts.invariant.reported c.plus-sum.ensures c.in-Ok.ensures.outcome c.in-Ok.ensures.leads;
}

pub returns-in-Err-clause-are : goal.returns-in-Err-clause-are
returns-in-Err-clause-are g c = λ known e.
    let many = c.splits.ensures.partitions known e in
    let few = c.splits.ensures.are.few in
    let same = ap length c.splits.ensures.value in
    let less : c.parts.number < length known = omega (arith, many, few, same) in
    never_refused known c.parts.number c.in-Err.refusal less (c.in-Err.ensures.outcome known e)

pub returns-in-Err-clause-were : goal.returns-in-Err-clause-were
returns-in-Err-clause-were g c =
    let told = c.parts.invariant.reported in (
      measured_from 0 told.each ++ Measured (length told.each) (Err c.in-Err.refusal) ∷ [],
      Calls-push g.D.Desk.leads c.args.desk.now (measured_from 0 told.each) c.args.desk.now (Measured (length told.each) (Err c.in-Err.refusal)) c.args.desk.now told.were (subst (λ (n : ℕ). g.D.Desk.leads c.args.desk.now (Measured n (Err c.in-Err.refusal)) c.args.desk.now) (sym told.many) c.in-Err.ensures.leads),
      (told.each, refl),
    )

pub returns-clause-are : goal.returns-clause-are
returns-clause-are g c = λ known e.
    let told = c.parts.invariant.reported in
    let many = c.splits.ensures.partitions known e in
    let few = c.splits.ensures.are.few in
    let same = ap length c.splits.ensures.value in
    let all : length known ≤ c.parts.number = omega (arith, many, few, same) in
    (told.each, subst (λ (tables : List PlainView). AreNumbersOfEach tables told.each) (take_all c.parts.number known all) (told.right known e), ap Ok told.sum_is)

pub returns-clause-were : goal.returns-clause-were
returns-clause-were g c =
    let told = c.parts.invariant.reported in
    let few = c.splits.ensures.are.few in
    let same = ap length c.splits.ensures.value in
    let many = told.many in
    (measured_from 0 told.each, told.were, (told.each, told.sum_is, omega (arith, many, few, same), refl))
