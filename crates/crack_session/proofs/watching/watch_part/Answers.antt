use Rattle.std.proofs.Common.{Ok, Err, [], ◌∷◌, refl}
use Rattle.crack_session.specs.Calls.{Measured}
use Rattle.crack_session.proofs.Calling.{Calls-one}
use Rattle.crack_session.proofs.watching.watch_part.Goals as goal

pub returns-in-Ok : goal.returns-in-Ok
returns-in-Ok g c = record {
  is = λ tables e. (tables, (record { outcome = Ok c.in-Ok.statistics; comes_out = c.in-Ok.ensures.outcome tables e; answer_is = refl }, refl), e);
  bounds_are = refl;
  splits_are = refl;
  calls = Measured c.args.part (Ok c.in-Ok.statistics) ∷ [];
  were = Calls-one g.D.Desk.leads _ _ _ c.in-Ok.ensures.leads;
  made = (Ok c.in-Ok.statistics, refl, refl);
}

pub returns-in-Err : goal.returns-in-Err
returns-in-Err g c = record {
  is = λ tables e. (tables, (record { outcome = Err c.in-Err.refusal; comes_out = c.in-Err.ensures.outcome tables e; answer_is = refl }, refl), e);
  bounds_are = refl;
  splits_are = refl;
  calls = Measured c.args.part (Err c.in-Err.refusal) ∷ [];
  were = Calls-one g.D.Desk.leads _ _ _ c.in-Err.ensures.leads;
  made = (Err c.in-Err.refusal, refl, refl);
}
