use Rattle.std.proofs.Common.{Err, inl, inr, ap, refl, take}
use Rattle.crack_session.proofs.serving.serve_read.Goals as goal

pub returns-in-Ok-clause-turn : goal.returns-in-Ok-clause-turn
returns-in-Ok-clause-turn g c = record {
  counted = c.read_some.ensures.counted;
  is = inl (take c.in-Ok.count c.read_some.new.room, c.in-Ok.ensures.once, c.serve_bytes.ensures.sends);
}

pub returns-in-Err-clause-turn : goal.returns-in-Err-clause-turn
returns-in-Err-clause-turn g c = record {
  counted = c.read_some.ensures.counted;
  is = inr (ap Err c.in-Err.ensures.err.0, c.in-Err.ensures.err.1, c.in-Err.ensures.err.2, refl, refl, refl);
}
