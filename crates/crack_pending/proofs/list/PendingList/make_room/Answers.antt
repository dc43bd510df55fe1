use Rattle.std.proofs.Common.{◌≡◌, ◌≤◌, length, vec_len, vec_capacity, refl, ap, ◌∙◌, arith}
use Rattle.crack_pending.proofs.Coded.{coded_none}
use Rattle.crack_pending.proofs.Views.{same_view, closed-kept, closed-handles, closed-remembered, closed-fewer, closed-rows, room-more, room-enough, OnOk_two, length-rows}
use Rattle.crack_pending.proofs.list.PendingList.make_room.Goals as goal

pub invariant_of-self : goal.invariant_of-self
invariant_of-self g c =
    let a = c.self.invariant.0 in
    let closed = c.close_up.ensures.closed in
    rw (c.grow.ensures.handles, c.grow.ensures.remembered, c.grow.ensures.stands) (
      closed-kept a closed,
      rw (closed-remembered a closed) c.self.invariant.1,
      coded_none _ _ c.clear.new.self c.clear.ensures,
      rw (closed-handles a closed) c.self.invariant.3,
    )

pub returns-clause-same : goal.returns-clause-same
returns-clause-same g c =
    let a = c.self.invariant.0 in
    let closed = c.close_up.ensures.closed in
    let handles = closed-handles a closed in
    let remembered = closed-remembered a closed in
    rw (← c.self.view_is) (same_view _ _ _ _ _ _ _ (rw (c.grow.ensures.handles, c.grow.ensures.stands) handles) (rw (c.grow.ensures.remembered, c.grow.ensures.stands) remembered) refl)

pub returns-clause-room : goal.returns-clause-room
returns-clause-room g c =
    let a = c.self.invariant.0 in
    let i = c.self.inside in
    let closed = c.close_up.ensures.closed in
    let rows = closed-rows a closed in
    let few = rw (← c.self.view_is) at c.requires in
    let long : length c.grow.new.tags.handles ≡ i.rows = ap length c.grow.ensures.handles ∙ rows in
    let more : c.args.additional ≤ c.max-wanted.result = omega (arith, c.max-wanted.ensures) in
    let s : vec_len c.close_up.new.stands ≡ i.rows = omega (arith, closed.long) in
    OnOk_two c.grow.result _ _ _ c.grow.ensures.tag_room c.grow.ensures.stand_room (λ tag_room stand_room.
    rw long (room-enough i.rows c.args.additional c.grow.new.tags.capacity (vec_capacity c.grow.new.stands) (omega (arith, few, length-rows a)) (omega (arith, tag_room, rows, more)) (omega (arith, stand_room, s, more))))

pub returns-clause-kept : goal.returns-clause-kept
returns-clause-kept g c =
    let a = c.self.invariant.0 in
    let i = c.self.inside in
    let closed = c.close_up.ensures.closed in
    let fewer = closed-fewer a closed in
    let long : length c.grow.new.tags.handles ≤ length i.tags.handles = omega (arith, ap length c.grow.ensures.handles, fewer) in
    rw (← c.self.view_is) (room-more _ _ _ _ _ _ long (omega (arith, c.grow.ensures.tag_kept, c.close_up.ensures.tag_capacity)) (omega (arith, c.grow.ensures.stand_kept, c.close_up.ensures.stand_capacity)))

pub returns-clause-remembered : goal.returns-clause-remembered
returns-clause-remembered g c = λ cells r.
    let a = c.self.invariant.0 in
    let closed = c.close_up.ensures.closed in
    let known = rw (← c.self.view_is) at r in
    rw (c.grow.ensures.handles, c.grow.ensures.remembered, c.grow.ensures.stands, closed-handles a closed, closed-remembered a closed) known
