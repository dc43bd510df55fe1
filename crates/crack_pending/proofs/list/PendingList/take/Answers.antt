use Rattle.std.proofs.Common.{sym, ap, ◌∙◌, arith}
use Rattle.crack_pending.specs.Inside.{IsSpotWith}
use Rattle.crack_pending.specs.Pending.{Pending}
use Rattle.crack_pending.proofs.Kept.{place_at-hole_behind, Stands-within, kept-hole}
use Rattle.crack_pending.proofs.Coded.{coded_hole}
use Rattle.crack_pending.proofs.MemberSpots.{members_hole}
use Rattle.crack_pending.proofs.Views.{kept_hole, place-StandsAt, spot-with, read-at, memories-beside, length-rows, remembers-others}
use Rattle.crack_pending.proofs.Unknown.{counted_hole, counted_some}
use Rattle.crack_pending.proofs.list.PendingList.take.Goals as goal
use Rattle.crack_pending.proofs.list.PendingList.take.Goals.{After-slot}
use Rattle.crack_pending.proofs.list.PendingList.take.Given.{Over}

pub spot_of-spot-requires-clause-within : goal.spot_of-spot-requires-clause-within
spot_of-spot-requires-clause-within g c =
    let a = c.self.invariant.0 in
    let within = rw (← c.self.view_is) at c.requires in
    omega (arith, within, length-rows a)

-- the cell that is struck is that of the row at the spot
spot_with : (g : Over) (c : After-slot g) → IsSpotWith c.self.inside.tags.handles c.self.inside.stands.items c.slot.result c.spot_of-spot.result
spot_with g c =
    let a = c.self.invariant.0 in
    let stands = rw (c.deref.ensures.value) at c.spot_of-spot.ensures.stands in
    rw (c.slot.ensures) (spot-with c.self.inside.tags.handles c.self.inside.stands.items a.stands_beside c.spot_of-spot.result c.handle-handle.result stands (read-at c.self.inside.tags.handles c.self.inside.stands.items a.stands_beside c.spot_of-spot.result c.handle-handle.result stands c.handle-handle.ensures))

pub strike-requires : goal.strike-requires
strike-requires g c =
    let a = c.self.invariant.0 in
    let with = spot_with g (goal.at.strike-requires g c).After-slot in
    omega (arith, a.covered c.spot_of-spot.result with.stands_there, with.of, c.self.invariant.3.within)

pub overflow_sub-self : goal.overflow_sub-self
overflow_sub-self g c =
    let a = c.self.invariant.0 in
    let within = rw (← c.self.view_is) at c.requires in
    omega (arith, within, length-rows a)

pub unknowns_without-self-inside-requires-clause-counted : goal.unknowns_without-self-inside-requires-clause-counted
unknowns_without-self-inside-requires-clause-counted g c = λ is.
    let a = c.self.invariant.0 in
    let i = c.self.inside in
    let stands = rw (c.deref.ensures.value) at c.spot_of-spot.ensures.stands in
    omega (arith, c.self.invariant.1, counted_some i.tags.remembered i.stands.items (memories-beside a) c.spot_of-spot.result stands is)

pub invariant_of-self : goal.invariant_of-self
invariant_of-self g c =
    let a = c.self.invariant.0 in
    let i = c.self.inside in
    let spot = c.spot_of-spot.result in
    let stands = rw (c.deref.ensures.value) at c.spot_of-spot.ensures.stands in
    let place = rw (c.deref.ensures.value) at c.spot_of-spot.ensures.place in
    let less = c.unknowns_without-self-inside.ensures in (
      kept_hole a spot c.args.place spot stands (omega (arith, Stands-within i.stands.items spot stands, a.stands_beside)) (sym place ∙ sym (place_at-hole_behind i.stands.items spot spot (omega arith))),
      omega (arith, c.self.invariant.1, less, counted_hole i.tags.remembered i.stands.items (memories-beside a) spot stands),
      rw (c.leave_hole.ensures) (coded_hole i.tags.remembered i.stands.items i.codes c.self.invariant.2 spot stands),
      members_hole a c.self.invariant.3 c.strike.new.self c.strike.ensures.long (spot_with g (goal.at.invariant_of-self g c).After-slot) c.strike.ensures.gone c.strike.ensures.others,
    )

pub returns-clause-value : goal.returns-clause-value
returns-clause-value g c =
    let a = c.self.invariant.0 in
    let stands = rw (c.deref.ensures.value) at c.spot_of-spot.ensures.stands in
    let place = rw (c.deref.ensures.value) at c.spot_of-spot.ensures.place in
    let there = place-StandsAt c.self.inside.tags.handles c.self.inside.stands.items a.stands_beside c.spot_of-spot.result c.handle-handle.result stands (read-at c.self.inside.tags.handles c.self.inside.stands.items a.stands_beside c.spot_of-spot.result c.handle-handle.result stands c.handle-handle.ensures) in
    rw (← c.self.view_is) (rw place at there)

pub returns-clause-handles : goal.returns-clause-handles
returns-clause-handles g c =
    let a = c.self.invariant.0 in
    let i = c.self.inside in
    let stands = rw (c.deref.ensures.value) at c.spot_of-spot.ensures.stands in
    let place = rw (c.deref.ensures.value) at c.spot_of-spot.ensures.place in
    let hole = kept-hole i.stands.items i.tags.handles c.spot_of-spot.result a.stands_beside stands in
    rw (← c.self.view_is) (ap (λ (p : Pending). p.handles) c.close_up_if_sparse.ensures.same ∙ (rw place at hole))

pub returns-clause-keys : goal.returns-clause-keys
returns-clause-keys g c =
    let a = c.self.invariant.0 in
    let i = c.self.inside in
    let stands = rw (c.deref.ensures.value) at c.spot_of-spot.ensures.stands in
    let place = rw (c.deref.ensures.value) at c.spot_of-spot.ensures.place in
    let hole = kept-hole i.stands.items i.tags.remembered c.spot_of-spot.result (memories-beside a) stands in
    rw (← c.self.view_is) (ap (λ (p : Pending). p.remembered) c.close_up_if_sparse.ensures.same ∙ (rw place at hole))

pub returns-clause-remembered : goal.returns-clause-remembered
returns-clause-remembered g c = λ cells r.
    rw c.close_up_if_sparse.ensures.same (remembers-others c.self.invariant.0 c.spot_of-spot.result (rw (c.deref.ensures.value) at c.spot_of-spot.ensures.stands) cells (rw (← c.self.view_is) at r))
