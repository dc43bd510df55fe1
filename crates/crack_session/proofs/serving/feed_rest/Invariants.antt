use Rattle.std.proofs.Common.{◌≡◌, [], length}
use Rattle.crack_session.proofs.Turns.{IsSent}
use Rattle.crack_session.proofs.serving.feed_rest.Given as goal

abbrev pub invariant-rest : goal.invariant-rest
invariant-rest g l = record {
  going : IsSent g.D.Desk.bounds g.D.Desk.splits g.D.Desk.tables g.D.Desk.leads g.W.Write.contents l.fn.session [] l.fn.desk l.desk l.fn.writer l.writer l.session;
  empty : l.out.items ≡ [];
}

abbrev pub decreases-rest : goal.decreases-rest
decreases-rest g l = length l.session.unwritten
