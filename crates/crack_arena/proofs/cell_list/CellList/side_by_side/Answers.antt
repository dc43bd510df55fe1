use Rattle.std.proofs.Common.{arith, ◌%◌}
use Rattle.std.proofs.lemmas.List.{length-drop}
use Rattle.crack_arena.proofs.PageLemmas.{IsPaged-fits, length-joined, within_page, drop_joined}
use Rattle.crack_arena.proofs.cell_list.CellList.side_by_side.Goals as goal

pub index-requires : goal.index-requires
index-requires g c =
    let within = rw (← c.self.view_is) at c.len.ensures in
    omega (arith, within, c.if-number-len.false, length-joined c.self.inside.pages.items c.self.inside.len c.self.invariant, IsPaged-fits c.self.inside.pages.items c.self.inside.len c.self.invariant)

pub cells_from-requires : goal.cells_from-requires
cells_from-requires g c =
    let long = rw (← c.self.view_is, length-joined c.self.inside.pages.items c.self.inside.len c.self.invariant) at c.len.ensures in
    omega (arith, within_page c.self.inside.pages.items c.self.inside.len c.args.number c.index.result.now c.self.invariant (omega (arith, long, c.if-number-len.false)) c.index.ensures)

pub returns-clause-cells : goal.returns-clause-cells
returns-clause-cells g c =
    let long = rw (← c.self.view_is, length-joined c.self.inside.pages.items c.self.inside.len c.self.invariant) at c.len.ensures in
    rw (c.cells_from.ensures, ← c.self.view_is) (drop_joined c.self.inside.pages.items c.self.inside.len c.args.number c.index.result.now c.self.invariant (omega (arith, long, c.if-number-len.false)) c.index.ensures)

pub returns-clause-some : goal.returns-clause-some
returns-clause-some g c = λ _.
    let long = rw (← c.self.view_is, length-joined c.self.inside.pages.items c.self.inside.len c.self.invariant) at c.len.ensures in
    let page = c.index.result.now in
    let place = within_page c.self.inside.pages.items c.self.inside.len c.args.number page c.self.invariant (omega (arith, long, c.if-number-len.false)) c.index.ensures in
    rw c.cells_from.ensures (omega (arith, place, length-drop (c.args.number % 256) page))
