use Rattle.std.proofs.Common.{◌≡◌, ◌+◌, ◌-◌, ◌∷◌, [], ◌++◌, length, nat_eq, vec_capacity, refl, ap, ◌∙◌, arith, length-append}
use Rattle.crack_arena.proofs.Remembering.{Remembers-append}
use Rattle.crack_arena.specs.Arena.{times}
use Rattle.crack_arena.specs.Rows.{unknown}
use Rattle.crack_tags.specs.Tags.{Tagged}
use Rattle.crack_pending.specs.Spots.{kept, spot_room}
use Rattle.crack_pending.proofs.Kept.{kept-push}
use Rattle.crack_pending.proofs.Coded.{coded_push}
use Rattle.crack_pending.proofs.MemberSpots.{members_push}
use Rattle.crack_pending.proofs.Views.{kept_more, view_after, room-less, room-some, memories-beside, few-rows}
use Rattle.crack_pending.proofs.Unknown.{counted_one, counted_push, counted_few, byte_few}
use Rattle.crack_pending.proofs.list.PendingList.push_remembered.Goals as goal

pub put-requires : goal.put-requires
put-requires g c =
    let covered = rw (← c.self.view_is) at c.requires.covered in
    omega (arith, c.slot.ensures, covered, c.self.invariant.3.within)

pub push_reserved-requires : goal.push_reserved-requires
push_reserved-requires g c =
    let room = rw (← c.self.view_is) at c.requires.room in
    (room-some _ _ _ room).1

pub overflow_add-self : goal.overflow_add-self
overflow_add-self g c =
    let a = c.self.invariant.0 in
    omega (arith, few-rows a, a.few)

pub overflow_add-self-2 : goal.overflow_add-self-2
overflow_add-self-2 g c =
    let a = c.self.invariant.0 in
    let i = c.self.inside in
    omega (arith, c.self.invariant.1, counted_few i.tags.remembered i.stands.items (memories-beside a), a.few, a.remembered_beside, byte_few (nat_eq c.key.result unknown))

pub invariant_of-self : goal.invariant_of-self
invariant_of-self g c =
    let a = c.self.invariant.0 in
    let i = c.self.inside in
    let room = rw (← c.self.view_is) at c.requires.room in
    let covered = rw (← c.self.view_is) at c.requires.covered in
    let absent = rw (← c.self.view_is) at c.requires.absent in
    rw (c.push_reserved.ensures, c.push_reserved-2.ensures.items) (
      kept_more a c.args.handle c.args.remembered (room-some _ _ _ room).0 covered absent,
      omega (arith, c.self.invariant.1, counted_one c.key.result ∙ ap (λ k. times unknown (k ∷ [])) c.key.ensures, counted_push i.tags.remembered i.stands.items (memories-beside a) c.args.remembered),
      coded_push i.tags.remembered i.stands.items i.codes c.self.invariant.2 c.args.remembered (memories-beside a),
      members_push a c.self.invariant.3 c.put.new.self c.put.ensures.long c.args.handle (rw c.slot.ensures at c.put.ensures.there) (rw c.slot.ensures at c.put.ensures.others),
    )

pub returns-clause-after : goal.returns-clause-after
returns-clause-after g c =
    let a = c.self.invariant.0 in
    let i = c.self.inside in
    let h = c.args.handle in
    let handles : kept c.push_reserved-2.new.self.items c.push_reserved.new.self.handles ≡ kept i.stands.items i.tags.handles ++ h ∷ [] =
    rw (c.push_reserved.ensures, c.push_reserved-2.ensures.items) (kept-push i.stands.items i.tags.handles h a.stands_beside) in
    let remembered : kept c.push_reserved-2.new.self.items c.push_reserved.new.self.remembered ≡ kept i.stands.items i.tags.remembered ++ c.args.remembered ∷ [] =
    rw (c.push_reserved.ensures, c.push_reserved-2.ensures.items) (kept-push i.stands.items i.tags.remembered c.args.remembered (memories-beside a)) in
    let long : length c.push_reserved.new.self.handles ≡ length i.tags.handles + 1 = ap (λ (t : Tagged). length t.handles) c.push_reserved.ensures ∙ omega (arith, length-append i.tags.handles (h ∷ [])) in
    let capacity : c.push_reserved.new.self.capacity ≡ i.tags.capacity = ap (λ (t : Tagged). t.capacity) c.push_reserved.ensures in
    let room : spot_room (length c.push_reserved.new.self.handles) c.push_reserved.new.self.capacity (vec_capacity c.push_reserved-2.new.self) ≡ spot_room (length i.tags.handles) i.tags.capacity (vec_capacity i.stands) - 1 =
    rw (long, capacity, c.push_reserved-2.ensures.capacity) (room-less (length i.tags.handles) i.tags.capacity (vec_capacity i.stands)) in
    rw (← c.self.view_is) (view_after _ _ _ _ _ _ _ _ handles remembered room refl)

pub returns-clause-remembered : goal.returns-clause-remembered
returns-clause-remembered g c = λ cells is r.
    let a = c.self.invariant.0 in
    let i = c.self.inside in
    let known = rw (← c.self.view_is) at r in
    rw (c.push_reserved.ensures, c.push_reserved-2.ensures.items, kept-push i.stands.items i.tags.handles c.args.handle a.stands_beside, kept-push i.stands.items i.tags.remembered c.args.remembered (memories-beside a))
    (Remembers-append cells (kept i.stands.items i.tags.handles) (kept i.stands.items i.tags.remembered) c.args.handle c.args.remembered is known)
