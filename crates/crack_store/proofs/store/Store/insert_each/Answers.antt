use Rattle.crack_store.proofs.RunLemmas.{IsRun-none, IsRun-may, IsRun-next}
use Rattle.crack_store.proofs.store.Store.insert_each.Goals as goal

pub rows-init : goal.rows-init
rows-init c = IsRun-none c.args.first.0 c.args.keys.now c.args.payloads.now c.args.self.now c.requires.insertable

pub insert-requires : goal.insert-requires
insert-requires c = rw (c.row_at_index-row.ensures) (IsRun-may c.args.first.0 c.args.keys.now c.args.payloads.now c.args.self.now c.rows.i c.rows.self c.rows.invariant c.rows-test.true)

pub rows-preserved : goal.rows-preserved
rows-preserved c =
    let is = c.row_at_index-row.ensures in
    IsRun-next c.args.first.0 c.args.keys.now c.args.payloads.now c.args.self.now c.rows.i c.rows.self c.insert.new.self c.requires.payloads c.rows-test.true c.rows.invariant (rw is at c.in-Ok.ensures.ok) (rw is at c.in-Ok.ensures.live)
