use Rattle.std.proofs.Common.{arith}
use Rattle.crack_arena.proofs.PageLemmas.{length-joined, short_page, joined_pushed, IsPaged_pushed}
use Rattle.crack_arena.proofs.cell_list.CellList.push_reserved.Goals as goal

pub push-requires : goal.push-requires
push-requires g c =
    let room = rw (← c.self.view_is) at c.requires.room in
    short_page c.self.inside.pages.items c.self.inside.len c.index_mut-page.result.now c.self.invariant (omega (arith, room)) c.index_mut-page.ensures.value

pub overflow_add-self : goal.overflow_add-self
overflow_add-self g c =
    let few = rw (← c.self.view_is) at c.requires.few in
    omega (arith, few, length-joined c.self.inside.pages.items c.self.inside.len c.self.invariant)

pub invariant_of-self : goal.invariant_of-self
invariant_of-self g c =
    let room = rw (← c.self.view_is) at c.requires.room in
    rw c.push.ensures (IsPaged_pushed c.self.inside.pages.items c.self.inside.len c.index_mut-page.result.now c.args.cell c.self.invariant (omega (arith, room)) c.index_mut-page.ensures.value)

pub returns-clause-items : goal.returns-clause-items
returns-clause-items g c =
    let room = rw (← c.self.view_is) at c.requires.room in
    rw (← c.self.view_is, c.push.ensures) (joined_pushed c.self.inside.pages.items c.self.inside.len c.index_mut-page.result.now c.args.cell c.self.invariant (omega (arith, room)) c.index_mut-page.ensures.value)
