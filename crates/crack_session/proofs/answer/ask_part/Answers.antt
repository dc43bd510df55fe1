use Rattle.std.proofs.Common.{Ok, Err, [], ◌∷◌, refl}
use Rattle.crack_core.specs.Steps.{tables_after}
use Rattle.crack_session.specs.Calls.{Asked}
use Rattle.crack_session.proofs.Calling.{Calls-one}
use Rattle.crack_session.proofs.answer.ask_part.Goals as goal

pub returns-in-Ok : goal.returns-in-Ok
returns-in-Ok g c = record {
  is = λ tables e. (
    tables_after (g.D.Desk.bounds c.args.desk.now) tables c.args.part c.args.command (Ok c.in-Ok.reply),
    record { outcome = Ok c.in-Ok.reply; comes_out = c.in-Ok.ensures.outcome tables e; answer_is = refl; new_is = refl },
    c.in-Ok.ensures.after tables e,
  );
  bounds_are = c.ask.ensures.bounds;
  splits_are = c.ask.ensures.splits;
  calls = Asked c.args.part c.args.command c.args.policy (Ok c.in-Ok.reply) ∷ [];
  were = Calls-one g.D.Desk.leads _ _ _ c.in-Ok.ensures.leads;
  made = (Ok c.in-Ok.reply, refl, refl);
}

pub returns-in-Err : goal.returns-in-Err
returns-in-Err g c = record {
  is = λ tables e. (
    tables,
    record { outcome = Err c.in-Err.refusal; comes_out = c.in-Err.ensures.outcome tables e; answer_is = refl; new_is = refl },
    c.in-Err.ensures.after tables e,
  );
  bounds_are = c.ask.ensures.bounds;
  splits_are = c.ask.ensures.splits;
  calls = Asked c.args.part c.args.command c.args.policy (Err c.in-Err.refusal) ∷ [];
  were = Calls-one g.D.Desk.leads _ _ _ c.in-Err.ensures.leads;
  made = (Err c.in-Err.refusal, refl, refl);
}
