use Rattle.std.proofs.Common.{ℕ, Ok, Err, [], ◌∷◌, refl}
use Rattle.crack_plain.specs.Plain.{checkpointed_table}
use Rattle.crack_core.specs.Steps.{changed_at}
use Rattle.crack_session.specs.Calls.{Checkpointed}
use Rattle.crack_session.proofs.Calling.{Calls-one}
use Rattle.crack_session.proofs.answer.checkpoint_part.Goals as goal

pub returns-in-Ok : goal.returns-in-Ok
returns-in-Ok g c = record {
  is = λ tables e. (
    changed_at {X = ℕ} checkpointed_table tables c.args.part (Ok c.in-Ok.count),
    record { outcome = Ok c.in-Ok.count; comes_out = c.in-Ok.ensures.outcome tables e; answer_is = refl; new_is = refl },
    c.in-Ok.ensures.after tables e,
  );
  bounds_are = c.checkpoint.ensures.bounds;
  splits_are = c.checkpoint.ensures.splits;
  calls = Checkpointed c.args.part (Ok c.in-Ok.count) ∷ [];
  were = Calls-one g.D.Desk.leads _ _ _ c.in-Ok.ensures.leads;
  made = (Ok c.in-Ok.count, refl, refl);
}

pub returns-in-Err : goal.returns-in-Err
returns-in-Err g c = record {
  is = λ tables e. (
    tables,
    record { outcome = Err c.in-Err.refusal; comes_out = c.in-Err.ensures.outcome tables e; answer_is = refl; new_is = refl },
    c.in-Err.ensures.after tables e,
  );
  bounds_are = c.checkpoint.ensures.bounds;
  splits_are = c.checkpoint.ensures.splits;
  calls = Checkpointed c.args.part (Err c.in-Err.refusal) ∷ [];
  were = Calls-one g.D.Desk.leads _ _ _ c.in-Err.ensures.leads;
  made = (Err c.in-Err.refusal, refl, refl);
}
