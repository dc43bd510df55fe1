use Rattle.std.proofs.Common.{[], arith}
use Rattle.crack_state.proofs.LayoutLaws.{cells-intact}
use Rattle.crack_store.specs.Inside.{lists_of}
use Rattle.crack_store.proofs.TakeLemmas.{inside-few}
use Rattle.crack_store.proofs.store.Store.carry_in_bulk.Goals as goal

pub count_in-count-requires-clause-few : goal.count_in-count-requires-clause-few
count_in-count-requires-clause-few c =
    let intact = c.self.invariant.intact in
    omega (arith, cells-intact (lists_of c.self.inside.inside) [] intact, intact.few_cells)

pub is_clear-requires-clause-few : goal.is_clear-requires-clause-few
is_clear-requires-clause-few c =
    let p = c.self.inside.inside in
    let intact = c.self.invariant.intact in
    omega (arith, cells-intact (lists_of p) [] intact, intact.few_cells, c.count_in-count.ensures.counts, inside-few p.arena.cells c.args.range p.pending_in.handles)

pub carry_at_most-requires-clause-most : goal.carry_at_most-requires-clause-most
carry_at_most-requires-clause-most c =
    let p = c.self.inside.inside in
    omega (arith, inside-few p.arena.cells c.args.range p.pending_in.handles, c.len-most.ensures)

pub carry_at_most-requires-2-clause-few : goal.carry_at_most-requires-2-clause-few
carry_at_most-requires-2-clause-few c =
    let p = c.self.inside.inside in
    rw c.count_in-count.ensures.same (omega (arith, inside-few p.arena.cells c.args.range p.pending_in.handles, c.count_in-count.ensures.counts))
