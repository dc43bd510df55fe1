use Rattle.std.proofs.Common.{◌≡◌, length, ap, ◌∙◌, arith}
use Rattle.crack_pending.specs.Pending.{Pending}
use Rattle.crack_pending.proofs.Kept.{place_at-before, Stands-within}
use Rattle.crack_pending.proofs.Coded.{coded_hole}
use Rattle.crack_pending.proofs.MemberSpots.{members_hole}
use Rattle.crack_pending.proofs.Views.{kept_hole, kept_noted, struck, nowhere-times, memories-beside, remembers-others}
use Rattle.crack_pending.proofs.Unknown.{counted_hole, counted_some}
use Rattle.crack_pending.proofs.list.PendingList.strike.Goals as goal

pub returns-in_default-clause-handles : goal.returns-in_default-clause-handles
returns-in_default-clause-handles g c =
    let a = c.self.invariant.0 in
    let nowhere = rw (c.deref.ensures.value, c.slot-slot.ensures) at c.in_default.ensures.found in
    let some = rw (← c.self.view_is) at c.requires in
    absurd (omega (arith, some, nowhere-times c.self.inside.tags.handles c.self.inside.stands.items a.stands_beside c.args.handle.slot nowhere))

pub returns-in_default-clause-keys : goal.returns-in_default-clause-keys
returns-in_default-clause-keys g c =
    let a = c.self.invariant.0 in
    let nowhere = rw (c.deref.ensures.value, c.slot-slot.ensures) at c.in_default.ensures.found in
    let some = rw (← c.self.view_is) at c.requires in
    absurd (omega (arith, some, nowhere-times c.self.inside.tags.handles c.self.inside.stands.items a.stands_beside c.args.handle.slot nowhere))

pub strike-requires : goal.strike-requires
strike-requires g c =
    let with = rw (c.deref.ensures.value) at c.in-Some.ensures.found in
    omega (arith, c.self.invariant.0.covered c.in-Some.spot with.stands_there, with.of, c.self.invariant.3.within)

pub overflow_sub-self : goal.overflow_sub-self
overflow_sub-self g c =
    let a = c.self.invariant.0 in
    let with = rw (c.deref.ensures.value, c.slot-slot.ensures) at c.in-Some.ensures.found in
    let within = Stands-within c.self.inside.stands.items c.in-Some.spot with.stands_there in
    omega (arith, a.counted, place_at-before c.self.inside.stands.items c.in-Some.spot (length c.self.inside.stands.items) with.stands_there within)

pub unknowns_without-self-inside-requires-clause-counted : goal.unknowns_without-self-inside-requires-clause-counted
unknowns_without-self-inside-requires-clause-counted g c = λ is.
    let a = c.self.invariant.0 in
    let i = c.self.inside in
    let with = rw (c.deref.ensures.value, c.slot-slot.ensures) at c.in-Some.ensures.found in
    omega (arith, c.self.invariant.1, counted_some i.tags.remembered i.stands.items (memories-beside a) c.in-Some.spot with.stands_there is)

pub invariant_of-self : goal.invariant_of-self
invariant_of-self g c =
    let a = c.self.invariant.0 in
    let i = c.self.inside in
    let covered : length c.spot_noted.new.spots.items ≡ length i.spots.items = omega (arith, c.spot_noted.ensures.covered) in
    let all = c.spot_noted.ensures.all in
    let led = rw (c.deref.ensures.value) at c.spot_noted.ensures.led in
    rw all (
      kept_noted a c.spot_noted.new.spots.items (omega (arith, c.spot_noted.ensures.covered)) led,
      c.self.invariant.1,
      c.self.invariant.2,
      rw covered c.self.invariant.3,
    )

pub invariant_of-self-2 : goal.invariant_of-self-2
invariant_of-self-2 g c =
    let a = c.self.invariant.0 in
    let i = c.self.inside in
    let with = rw (c.deref.ensures.value, c.slot-slot.ensures) at c.in-Some.ensures.found in
    let hint = rw (c.deref-2.ensures.value) at c.hint_without-self-inside.ensures in
    let less = c.unknowns_without-self-inside.ensures in
    let covered : length c.spot_noted.new.spots.items ≡ length i.spots.items = omega (arith, c.spot_noted.ensures.covered) in
    let all = c.spot_noted.ensures.all in
    let led = rw (c.deref.ensures.value) at c.spot_noted.ensures.led in
    let noted = kept_noted a c.spot_noted.new.spots.items (omega (arith, c.spot_noted.ensures.covered)) led in
    rw all (
      kept_hole noted c.in-Some.spot c.hint_without-self-inside.result i.hint_spot with.stands_there a.near hint,
      omega (arith, c.self.invariant.1, less, counted_hole i.tags.remembered i.stands.items (memories-beside a) c.in-Some.spot with.stands_there),
      rw (c.leave_hole.ensures) (coded_hole i.tags.remembered i.stands.items i.codes c.self.invariant.2 c.in-Some.spot with.stands_there),
      rw covered (members_hole a c.self.invariant.3 c.strike.new.self c.strike.ensures.long with (rw c.slot-slot.ensures at c.strike.ensures.gone) (rw c.slot-slot.ensures at c.strike.ensures.others)),
    )

pub returns-clause-handles : goal.returns-clause-handles
returns-clause-handles g c =
    let a = c.self.invariant.0 in
    let i = c.self.inside in
    let with = rw (c.deref.ensures.value, c.slot-slot.ensures) at c.in-Some.ensures.found in
    rw (← c.self.view_is) (ap (λ (p : Pending). p.handles) c.close_up_if_sparse.ensures.same ∙ struck a with i.tags.handles a.stands_beside)

pub returns-clause-keys : goal.returns-clause-keys
returns-clause-keys g c =
    let a = c.self.invariant.0 in
    let i = c.self.inside in
    let with = rw (c.deref.ensures.value, c.slot-slot.ensures) at c.in-Some.ensures.found in
    rw (← c.self.view_is) (ap (λ (p : Pending). p.remembered) c.close_up_if_sparse.ensures.same ∙ struck a with i.tags.remembered (memories-beside a))

pub returns-clause-remembered : goal.returns-clause-remembered
returns-clause-remembered g c = λ cells r.
    let with = rw (c.deref.ensures.value) at c.in-Some.ensures.found in
    rw c.close_up_if_sparse.ensures.same (remembers-others c.self.invariant.0 c.in-Some.spot with.stands_there cells (rw (← c.self.view_is) at r))
