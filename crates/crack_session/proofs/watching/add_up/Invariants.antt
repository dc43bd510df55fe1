use Rattle.crack_session.proofs.Adding.{HaveReported}
use Rattle.crack_session.proofs.watching.add_up.Given as goal

abbrev pub invariant-parts : goal.invariant-parts
invariant-parts g l = record {
  reported : HaveReported g.D.Desk.tables g.D.Desk.leads l.desk l.number l.sum;
}
