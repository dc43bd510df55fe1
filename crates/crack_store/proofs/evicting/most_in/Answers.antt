use Rattle.std.proofs.Common.{[], arith}
use Rattle.crack_state.proofs.LayoutLaws.{cells-intact}
use Rattle.crack_store.specs.Inside.{lists_of}
use Rattle.crack_store.proofs.TakeLemmas.{inside-few}
use Rattle.crack_store.proofs.evicting.most_in.Goals as goal

pub count_in-requires-clause-few : goal.count_in-requires-clause-few
count_in-requires-clause-few c =
    let intact = c.requires.intact.intact in
    omega (arith, cells-intact (lists_of c.args.inside.now) [] intact, intact.few_cells)

pub returns-then-is_counted_late-clause-most : goal.returns-then-is_counted_late-clause-most
returns-then-is_counted_late-clause-most c = omega (arith, inside-few c.args.inside.now.arena.cells c.args.range c.args.inside.now.pending_in.handles, c.len.ensures)

pub returns-clause-few : goal.returns-clause-few
returns-clause-few c = omega (arith, inside-few c.args.inside.now.arena.cells c.args.range c.args.inside.now.pending_in.handles, c.count_in.ensures.counts)
