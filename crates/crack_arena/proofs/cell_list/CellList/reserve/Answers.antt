use Rattle.std.proofs.Common.{arith}
use Rattle.crack_arena.proofs.PageLemmas.{IsPaged-fits, IsPaged_taken, joined_taken, length_taken, on_ok, on_err}
use Rattle.crack_arena.proofs.cell_list.CellList.reserve.Goals as goal

pub overflow_sub-left : goal.overflow_sub-left
overflow_sub-left g c = omega (arith, c.len.ensures, IsPaged-fits c.self.inside.pages.items c.self.inside.len c.self.invariant)

pub invariant_of-self : goal.invariant_of-self
invariant_of-self g c = IsPaged_taken _ c.self.inside.pages.items _ c.self.inside.len _ c.take_pages.ensures c.self.invariant

pub returns-clause-items : goal.returns-clause-items
returns-clause-items g c = rw (← c.self.view_is) (joined_taken _ c.self.inside.pages.items _ _ c.take_pages.ensures)

pub returns-clause-room : goal.returns-clause-room
returns-clause-room g c = on_ok c.take_pages.result (λ ok.
    let taken = rw ok at c.take_pages.ensures in
    let long = length_taken c.self.inside.pages.items _ _ taken in
    omega (arith, long, IsPaged-fits c.self.inside.pages.items c.self.inside.len c.self.invariant))

pub returns-clause-full : goal.returns-clause-full
returns-clause-full g c = on_err c.take_pages.result (rw (← c.self.view_is) (omega (arith, IsPaged-fits c.self.inside.pages.items c.self.inside.len c.self.invariant)))
