use Rattle.std.proofs.Common.{[], arith}
use Rattle.crack_state.proofs.LayoutLaws.{cells-intact}
use Rattle.crack_store.specs.Inside.{lists_of}
use Rattle.crack_store.specs.Runs.{AreInsertable}
use Rattle.crack_store.proofs.store.Store.insert_run.Goals as goal

pub make_room_for_run-requires-clause-few : goal.make_room_for_run-requires-clause-few
make_room_for_run-requires-clause-few c =
    let may : AreInsertable c.args.first.0 c.args.keys.now (lists_of c.self.inside.inside) = rw (← c.self.view_is) at c.requires.insertable in
    omega (arith, may.cells, cells-intact (lists_of c.self.inside.inside) [] c.self.invariant.intact)
