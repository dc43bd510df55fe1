use Rattle.crack_csv.proofs.Loaders.{EndsWith-none, EndsWith-last, StopsAtEnd-last}
use Rattle.crack_csv.proofs.loader.Loader.end.Goals as goal

pub returns-then-not-takes_last-clause-all : goal.returns-then-not-takes_last-clause-all
returns-then-not-takes_last-clause-all g c =
    rw (c.loaded.ensures.value, c.takes_last.ensures.same c.if-not-takes_last.true)
    (EndsWith-none g.D.Desk.bounds g.D.Desk.splits g.D.Desk.tables g.D.Desk.accepted g.D.Desk.leads c.args.self.now c.args.desk.now c.takes_last.result c.takes_last.ensures.ends c.if-not-takes_last.true)

pub returns-in-Ok-clause-all : goal.returns-in-Ok-clause-all
returns-in-Ok-clause-all g c =
    rw (c.loaded-in-Ok.ensures.value)
    (EndsWith-last g.D.Desk.bounds g.D.Desk.splits g.D.Desk.tables g.D.Desk.accepted g.D.Desk.leads c.args.self.now c.takes_last.new.self c.finish.new.self c.args.desk.now c.finish.new.desk c.takes_last.result c.takes_last.ensures.ends
    c.if-not-takes_last.false (c.takes_last.ensures.last c.if-not-takes_last.false) c.in-Ok.ensures.goes_on)

pub returns-in-Err-clause-stops : goal.returns-in-Err-clause-stops
returns-in-Err-clause-stops g c =
    rw (c.loaded-in-Err.ensures.value)
    (StopsAtEnd-last g.D.Desk.bounds g.D.Desk.splits g.D.Desk.tables g.D.Desk.accepted g.D.Desk.leads c.args.self.now c.takes_last.new.self c.args.desk.now c.finish.new.desk _ c.takes_last.result c.takes_last.ensures.ends
    c.if-not-takes_last.false (c.takes_last.ensures.last c.if-not-takes_last.false) c.in-Err.ensures.stops)
