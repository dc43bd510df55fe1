use Rattle.std.proofs.Common.{arith}
use Rattle.crack_arena.proofs.PageLemmas.{IsPaged-fits, length-joined, within_page, read_joined}
use Rattle.crack_arena.proofs.cell_list.CellList.at.Goals as goal

pub index-requires : goal.index-requires
index-requires g c =
    let within = rw (← c.self.view_is) at c.requires in
    omega (arith, within, length-joined c.self.inside.pages.items c.self.inside.len c.self.invariant, IsPaged-fits c.self.inside.pages.items c.self.inside.len c.self.invariant)

pub at-requires : goal.at-requires
at-requires g c =
    let within = rw (← c.self.view_is, length-joined c.self.inside.pages.items c.self.inside.len c.self.invariant) at c.requires in
    within_page c.self.inside.pages.items c.self.inside.len c.args.number c.index.result.now c.self.invariant within c.index.ensures

pub returns : goal.returns
returns g c =
    let within = rw (← c.self.view_is, length-joined c.self.inside.pages.items c.self.inside.len c.self.invariant) at c.requires in
    rw (← c.self.view_is) (read_joined c.self.inside.pages.items c.self.inside.len c.args.number c.index.result.now _ c.self.invariant within c.index.ensures c.at.ensures)
