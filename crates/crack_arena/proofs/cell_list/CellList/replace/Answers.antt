use Rattle.std.proofs.Common.{arith, refl, length-set}
use Rattle.crack_arena.proofs.PageLemmas.{IsPaged-fits, length-joined, within_page, read_joined, joined_written, IsPaged_written}
use Rattle.crack_arena.proofs.cell_list.CellList.replace.Goals as goal

pub index_mut-page-requires : goal.index_mut-page-requires
index_mut-page-requires g c =
    let within = rw (← c.self.view_is) at c.requires in
    omega (arith, within, length-joined c.self.inside.pages.items c.self.inside.len c.self.invariant, IsPaged-fits c.self.inside.pages.items c.self.inside.len c.self.invariant)

pub replace-requires : goal.replace-requires
replace-requires g c =
    let within = rw (← c.self.view_is, length-joined c.self.inside.pages.items c.self.inside.len c.self.invariant) at c.requires in
    within_page c.self.inside.pages.items c.self.inside.len c.args.number c.index_mut-page.result.now c.self.invariant within c.index_mut-page.ensures.value

pub invariant_of-self : goal.invariant_of-self
invariant_of-self g c = rw c.replace.ensures.after (IsPaged_written c.self.inside.pages.items c.self.inside.len c.args.number c.index_mut-page.result.now c.args.cell c.self.invariant c.index_mut-page.ensures.value)

pub returns-clause-value : goal.returns-clause-value
returns-clause-value g c =
    let within = rw (← c.self.view_is, length-joined c.self.inside.pages.items c.self.inside.len c.self.invariant) at c.requires in
    rw (← c.self.view_is) (read_joined c.self.inside.pages.items c.self.inside.len c.args.number c.index_mut-page.result.now _ c.self.invariant within c.index_mut-page.ensures.value c.replace.ensures.value)

pub returns-clause-after : goal.returns-clause-after
returns-clause-after g c =
    let within = rw (← c.self.view_is, length-joined c.self.inside.pages.items c.self.inside.len c.self.invariant) at c.requires in
    rw (← c.self.view_is, c.replace.ensures.after, joined_written c.self.inside.pages.items c.self.inside.len c.args.number c.index_mut-page.result.now c.args.cell c.self.invariant within c.index_mut-page.ensures.value, length-set) refl
