use Rattle.std.proofs.Common.{◌≡◌, take}
use Rattle.crack_csv.specs.Loaders.{Takes}
use Rattle.crack_csv.proofs.loader.Loader.feed.Given as goal

abbrev pub invariant-bytes : goal.invariant-bytes
invariant-bytes g l = record {
  takes : Takes g.D.Desk.bounds g.D.Desk.splits g.D.Desk.tables g.D.Desk.accepted g.D.Desk.leads l.fn.self (take l.at l.bytes) l.fn.desk l.desk l.self;
  policy : l.self.policy ≡ l.fn.self.policy;
}
