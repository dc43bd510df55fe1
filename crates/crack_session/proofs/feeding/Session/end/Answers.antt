use Rattle.crack_session.proofs.Whole.{statements_fed}
use Rattle.crack_session.proofs.feeding.Session.end.Goals as goal

pub returns-clause-whole : goal.returns-clause-whole
returns-clause-whole g c = λ bytes begun. statements_fed c.args.self.now.begun bytes begun
