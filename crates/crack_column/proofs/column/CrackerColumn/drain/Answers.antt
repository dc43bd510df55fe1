use Rattle.std.proofs.Common.{◌-◌, sym, arith}
use Rattle.crack_column.proofs.DrainLaws.{IsDraining-next}
use Rattle.crack_column.proofs.column.CrackerColumn.drain.Goals as goal

pub doomed-preserved : goal.doomed-preserved
doomed-preserved c =
    let r = c.drain_once-from.result in
    let e = c.drain_once-from.ensures in
    IsDraining-next c.args.low c.args.high c.args.doomed.now (c.args.from - c.args.gap) c.args.from c.args.to c.args.self.now c.doomed.self c.drain_once-from.new.self c.doomed.start c.doomed.end c.doomed.pulled c.doomed.i r.0 r.1 r.2 c.index-doomed-i.result c.doomed-test.true (sym c.index-doomed-i.is) (omega arith) c.doomed.invariant e.drains e.gap e.order e.end e.few e.front e.behind e.length e.room e.aside e.remembered
