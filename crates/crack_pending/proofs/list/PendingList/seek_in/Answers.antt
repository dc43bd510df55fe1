use Rattle.std.proofs.Common.{◌≡◌, arith, ltb-false}
use Rattle.crack_pending.proofs.Kept.{place_at-few}
use Rattle.crack_pending.proofs.Searches.{length-keys_at}
use Rattle.crack_pending.proofs.Views.{KnowRows-kept, finds-none, finds-some, memories-beside, length-rows}
use Rattle.crack_pending.specs.Spots.{kept}
use Rattle.crack_pending.proofs.Unknown.{counted_none}
use Rattle.crack_pending.proofs.list.PendingList.seek_in.Goals as goal

pub returns-then-self-from-clause-finds : goal.returns-then-self-from-clause-finds
returns-then-self-from-clause-finds g c =
    let a = c.self.invariant.0 in
    let rows = kept c.self.inside.stands.items c.self.inside.tags.handles in
    rw (← c.self.view_is) (λ k after before inside.
    absurd (omega (arith, after, before, length-keys_at c.args.arena.now.cells rows, length-rows a, c.if-self-from.true)))

pub next_hit-requires-clause-few : goal.next_hit-requires-clause-few
next_hit-requires-clause-few g c = c.self.invariant.0.few

pub next_hit-requires-clause-known : goal.next_hit-requires-clause-known
next_hit-requires-clause-known g c =
    let a = c.self.invariant.0 in
    let right = rw (← c.self.view_is) at c.requires in
    rw (c.deref-3.ensures.value) (KnowRows-kept c.args.arena.now.cells c.self.inside.tags.handles c.self.inside.tags.remembered c.self.inside.stands.items a.stands_beside a.remembered_beside right)

pub next_hit-requires-clause-all_known : goal.next_hit-requires-clause-all_known
next_hit-requires-clause-all_known g c = λ none.
    let a = c.self.invariant.0 in
    let i = c.self.inside in
    let zero : i.unknowns ≡ 0 = omega (arith, ltb-false 0 i.unknowns none) in
    rw (c.deref-3.ensures.value) (counted_none i.tags.remembered i.stands.items (memories-beside a) (omega (arith, c.self.invariant.1, zero)))

pub overflow_add-self : goal.overflow_add-self
overflow_add-self g c =
    let a = c.self.invariant.0 in
    let place = rw (c.deref-2.ensures.value) at c.spot_before-start.ensures.place in
    let found = rw (c.deref-3.ensures.value) at c.in-Some.ensures.hit in
    omega (arith, place, rw (c.deref-in-Some.ensures.value) at c.rows_between.ensures, place_at-few c.self.inside.stands.items c.in-Some.spot, found.within, a.few)

pub returns-in-Some-clause-finds : goal.returns-in-Some-clause-finds
returns-in-Some-clause-finds g c =
    let a = c.self.invariant.0 in
    let place = rw (c.deref-2.ensures.value) at c.spot_before-start.ensures.place in
    let found = rw (c.deref-3.ensures.value) at c.in-Some.ensures.hit in
    let first = finds-some c.args.range c.args.arena.now.cells c.self.inside.tags.handles c.self.inside.stands.items a.stands_beside c.spot_before-start.result c.in-Some.spot found in
    rw (← c.self.view_is) (rw (rw (c.deref-in-Some.ensures.value) at c.rows_between.ensures, place) at first)

pub returns-in-None-clause-finds : goal.returns-in-None-clause-finds
returns-in-None-clause-finds g c =
    let a = c.self.invariant.0 in
    let place = rw (c.deref-2.ensures.value) at c.spot_before-start.ensures.place in
    let missed = rw (c.deref-3.ensures.value) at c.in-None.ensures.hit in
    let none = finds-none c.args.range c.args.arena.now.cells c.self.inside.tags.handles c.self.inside.stands.items a.stands_beside c.spot_before-start.result missed in
    rw (← c.self.view_is) (rw place at none)
