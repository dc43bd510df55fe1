use Rattle.std.proofs.Common.{◌≤◌, ◌-◌, take, length}
use Rattle.crack_session.specs.Feeding.{Feeds}
use Rattle.crack_session.proofs.feeding.Session.feed.Given as goal

abbrev pub invariant-lines : goal.invariant-lines
invariant-lines g l = record {
  feeds : Feeds g.D.Desk.bounds g.D.Desk.splits g.D.Desk.tables g.D.Desk.leads l.fn.self (take l.taken l.bytes) l.fn.desk l.desk l.fn.out.items l.out.items l.self;
  within : l.taken ≤ length l.bytes;
}

abbrev pub decreases-lines : goal.decreases-lines
decreases-lines g l = length l.bytes - l.taken
