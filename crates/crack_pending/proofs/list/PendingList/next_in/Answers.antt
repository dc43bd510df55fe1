use Rattle.std.proofs.Common.{◌≡◌, arith, ltb-false}
use Rattle.crack_pending.proofs.Kept.{place_at-few}
use Rattle.crack_pending.proofs.Searches.{length-keys_at}
use Rattle.crack_pending.proofs.Views.{KnowRows-kept, finds-none, finds-some, memories-beside, length-rows}
use Rattle.crack_pending.specs.Spots.{kept}
use Rattle.crack_pending.proofs.Unknown.{counted_none}
use Rattle.crack_pending.proofs.list.PendingList.next_in.Goals as goal

pub returns-then-self-from : goal.returns-then-self-from
returns-then-self-from g c =
    let a = c.self.invariant.0 in
    let rows = kept c.self.inside.stands.items c.self.inside.tags.handles in
    rw (← c.self.view_is) (λ k after before inside.
    absurd (omega (arith, after, before, length-keys_at c.args.arena.now.cells rows, length-rows a, c.if-self-from.true)))

pub first_hit-requires-clause-few : goal.first_hit-requires-clause-few
first_hit-requires-clause-few g c = c.self.invariant.0.few

pub first_hit-requires-clause-known : goal.first_hit-requires-clause-known
first_hit-requires-clause-known g c =
    let a = c.self.invariant.0 in
    let right = rw (← c.self.view_is) at c.requires in
    rw (c.deref-2.ensures.value) (KnowRows-kept c.args.arena.now.cells c.self.inside.tags.handles c.self.inside.tags.remembered c.self.inside.stands.items a.stands_beside a.remembered_beside right)

pub first_hit-requires-clause-all_known : goal.first_hit-requires-clause-all_known
first_hit-requires-clause-all_known g c = λ none.
    let a = c.self.invariant.0 in
    let i = c.self.inside in
    let zero : i.unknowns ≡ 0 = omega (arith, ltb-false 0 i.unknowns none) in
    rw (c.deref-2.ensures.value) (counted_none i.tags.remembered i.stands.items (memories-beside a) (omega (arith, c.self.invariant.1, zero)))

pub overflow_add-result : goal.overflow_add-result
overflow_add-result g c =
    let a = c.self.invariant.0 in
    let place = rw (c.deref.ensures.value) at c.spot_before-start.ensures.place in
    let hit = rw (c.deref-2.ensures.value) at c.in-Some.ensures in
    let more = rw (c.deref-in-Some.ensures.value) at c.rows_between.ensures in
    omega (arith, place, more, place_at-few c.self.inside.stands.items c.in-Some.spot, hit.within, a.few)

pub returns-in-Some : goal.returns-in-Some
returns-in-Some g c =
    let a = c.self.invariant.0 in
    let place = rw (c.deref.ensures.value) at c.spot_before-start.ensures.place in
    let hit = rw (c.deref-2.ensures.value) at c.in-Some.ensures in
    let more = rw (c.deref-in-Some.ensures.value) at c.rows_between.ensures in
    let first = finds-some c.args.range c.args.arena.now.cells c.self.inside.tags.handles c.self.inside.stands.items a.stands_beside c.spot_before-start.result c.in-Some.spot hit in
    rw (← c.self.view_is) (rw (more, place) at first)

pub returns-in-None : goal.returns-in-None
returns-in-None g c =
    let a = c.self.invariant.0 in
    let place = rw (c.deref.ensures.value) at c.spot_before-start.ensures.place in
    let missed = rw (c.deref-2.ensures.value) at c.in-None.ensures in
    let none = finds-none c.args.range c.args.arena.now.cells c.self.inside.tags.handles c.self.inside.stands.items a.stands_beside c.spot_before-start.result missed in
    rw (← c.self.view_is) (rw place at none)
