use Rattle.std.proofs.Common.{◌≡◌, length, refl, ap, ◌∙◌, arith}
use Rattle.crack_pending.proofs.Coded.{coded_none}
use Rattle.crack_pending.proofs.Views.{same_view, closed-kept, closed-handles, closed-remembered, closed-rows, room-sure, few-rows}
use Rattle.crack_pending.proofs.list.PendingList.shrink.Goals as goal

pub overflow_add-spots : goal.overflow_add-spots
overflow_add-spots g c =
    let a = c.self.invariant.0 in
    let few = rw (← c.self.view_is) at c.requires in
    omega (arith, few, a.few, few-rows a, c.max-wanted.ensures)

pub invariant_of-self : goal.invariant_of-self
invariant_of-self g c =
    let a = c.self.invariant.0 in
    let closed = c.close_up.ensures.closed in
    rw (c.shrink_to.ensures.handles, c.shrink_to.ensures.remembered, c.shrink_to-2.ensures.items) (
      closed-kept a closed,
      rw (closed-remembered a closed) c.self.invariant.1,
      coded_none _ _ c.give_back.new.self c.give_back.ensures,
      rw (closed-handles a closed) c.self.invariant.3,
    )

pub returns-clause-same : goal.returns-clause-same
returns-clause-same g c =
    let a = c.self.invariant.0 in
    let closed = c.close_up.ensures.closed in
    let handles = closed-handles a closed in
    let remembered = closed-remembered a closed in
    rw (← c.self.view_is) (same_view _ _ _ _ _ _ _ (rw (c.shrink_to.ensures.handles, c.shrink_to-2.ensures.items) handles) (rw (c.shrink_to.ensures.remembered, c.shrink_to-2.ensures.items) remembered) refl)

pub returns-clause-sure : goal.returns-clause-sure
returns-clause-sure g c =
    let a = c.self.invariant.0 in
    let i = c.self.inside in
    let closed = c.close_up.ensures.closed in
    let some = rw (← c.self.view_is) at c.requires in
    let rows = closed-rows a closed in
    let long : length c.shrink_to.new.self.handles ≡ i.rows = ap length c.shrink_to.ensures.handles ∙ rows in
    rw long (room-sure (length i.tags.handles) i.rows c.args.room c.max-wanted.result _ _ _ _ (few-rows a) (omega (arith, c.max-wanted.ensures)) some (omega (arith, c.shrink_to.ensures.lower, c.close_up.ensures.tag_capacity)) (omega (arith, c.shrink_to-2.ensures.lower_bound, c.close_up.ensures.stand_capacity)))

pub returns-clause-remembered : goal.returns-clause-remembered
returns-clause-remembered g c = λ cells r.
    let a = c.self.invariant.0 in
    let closed = c.close_up.ensures.closed in
    let known = rw (← c.self.view_is) at r in
    rw (c.shrink_to.ensures.handles, c.shrink_to.ensures.remembered, c.shrink_to-2.ensures.items, closed-handles a closed, closed-remembered a closed) known
