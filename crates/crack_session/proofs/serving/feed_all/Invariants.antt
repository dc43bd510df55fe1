use Rattle.std.proofs.Common.{◌≡◌, ◌≤◌, ◌-◌, [], length, take}
use Rattle.crack_session.proofs.Turns.{IsSent}
use Rattle.crack_session.proofs.serving.feed_all.Given as goal

abbrev pub invariant-pieces : goal.invariant-pieces
invariant-pieces g l = record {
  going : IsSent g.D.Desk.bounds g.D.Desk.splits g.D.Desk.tables g.D.Desk.leads g.W.Write.contents l.fn.session (take l.taken l.bytes) l.fn.desk l.desk l.fn.writer l.writer l.session;
  within : l.taken ≤ length l.bytes;
  written : l.session.unwritten ≡ [];
  empty : l.out.items ≡ [];
}

abbrev pub decreases-pieces : goal.decreases-pieces
decreases-pieces g l = length l.bytes - l.taken
