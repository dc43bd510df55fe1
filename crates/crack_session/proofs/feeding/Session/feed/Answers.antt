use Rattle.std.proofs.Common.{arith, take, drop, length-drop}
use Rattle.std.proofs.Math.Seq.{take-add}
use Rattle.crack_session.proofs.Pieces.{Feeds-none, Feeds-then, Feeds-write, whole_rest}
use Rattle.crack_session.proofs.feeding.Session.feed.Goals as goal

pub lines-init : goal.lines-init
lines-init g c = record {
  feeds = Feeds-none g.D.Desk.bounds g.D.Desk.splits g.D.Desk.tables g.D.Desk.leads c.args.self.now c.args.desk.now c.args.out.now.items;
  within = omega arith;
}

pub returns-in-Some-clause-feeds : goal.returns-in-Some-clause-feeds
returns-in-Some-clause-feeds g c =
    Feeds-write g.D.Desk.bounds g.D.Desk.splits g.D.Desk.tables g.D.Desk.leads c.args.self.now c.lines.self c.stops.new.self (take c.lines.taken c.args.bytes.now) c.args.desk.now c.lines.desk
    c.args.out.now.items c.lines.out.items c.stops.new.out.items c.lines.invariant.feeds c.stops.ensures.same c.stops.ensures.text c.stops.ensures.grows

pub lines-preserved : goal.lines-preserved
lines-preserved g c =
    let bytes = c.args.bytes.now in
    let taken = c.lines.taken in
    let wrote = Feeds-write g.D.Desk.bounds g.D.Desk.splits g.D.Desk.tables g.D.Desk.leads c.args.self.now c.lines.self c.stops.new.self (take taken bytes) c.args.desk.now c.lines.desk
    c.args.out.now.items c.lines.out.items c.stops.new.out.items c.lines.invariant.feeds c.stops.ensures.same c.stops.ensures.text c.stops.ensures.grows in
    let line = rw (whole_rest taken bytes) at c.take_line-taken.ensures.feeds in
    record {
      feeds = rw (take-add taken c.take_line-taken.result bytes)
          (Feeds-then g.D.Desk.bounds g.D.Desk.splits g.D.Desk.tables g.D.Desk.leads c.args.self.now c.stops.new.self c.take_line-taken.new.self (take taken bytes) (take c.take_line-taken.result (drop taken bytes))
          c.args.desk.now c.lines.desk c.take_line-taken.new.desk c.args.out.now.items c.stops.new.out.items c.take_line-taken.new.out.items wrote line);
      within = let few = rw (whole_rest taken bytes) at c.take_line-taken.ensures.few.1 in let l = length-drop taken bytes in omega (arith, few, l, c.lines.invariant.within);
    }
