use Rattle.std.proofs.Common.{refl}
use Rattle.crack_session.proofs.answer.LentAskPart.ask_part.Goals as goal

pub returns-clause-asks : goal.returns-clause-asks
returns-clause-asks g c = (refl, record { comes_out = c.ask.ensures.outcome; after = c.ask.ensures.after; bounds_are = c.ask.ensures.bounds; splits_are = c.ask.ensures.splits; led = c.ask.ensures.leads })
