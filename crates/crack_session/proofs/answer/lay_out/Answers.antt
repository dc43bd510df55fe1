use Rattle.std.proofs.Common.{Ok, Err, [], ◌∷◌, refl}
use Rattle.crack_session.specs.Calls.{Looked}
use Rattle.crack_session.proofs.Calling.{Calls-one}
use Rattle.crack_session.proofs.answer.lay_out.Goals as goal

pub returns-in-Ok : goal.returns-in-Ok
returns-in-Ok g c = record {
  is = λ tables e. (tables, (record { outcome = Ok c.in-Ok.layout; comes_out = c.in-Ok.ensures.outcome tables e; answer_is = refl }, refl), e);
  bounds_are = refl;
  splits_are = refl;
  calls = Looked c.args.part (Ok c.in-Ok.layout) ∷ [];
  were = Calls-one g.D.Desk.leads _ _ _ c.in-Ok.ensures.leads;
  made = (Ok c.in-Ok.layout, refl, refl);
}

pub returns-in-Err : goal.returns-in-Err
returns-in-Err g c = record {
  is = λ tables e. (tables, (record { outcome = Err c.in-Err.refusal; comes_out = c.in-Err.ensures.outcome tables e; answer_is = refl }, refl), e);
  bounds_are = refl;
  splits_are = refl;
  calls = Looked c.args.part (Err c.in-Err.refusal) ∷ [];
  were = Calls-one g.D.Desk.leads _ _ _ c.in-Err.ensures.leads;
  made = (Err c.in-Err.refusal, refl, refl);
}
