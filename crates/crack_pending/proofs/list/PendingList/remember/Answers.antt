use Rattle.std.proofs.Common.{◌≡◌, ◌∷◌, [], length, refl, ap, ◌∙◌, nat_eq, arith}
use Rattle.crack_arena.specs.Arena.{times}
use Rattle.crack_arena.specs.Rows.{unknown}
use Rattle.crack_pending.proofs.Coded.{coded_key}
use Rattle.crack_pending.proofs.Views.{other_memory, anew, same_view, nowhere-times, kept_memory, kept_noted, memories-beside}
use Rattle.crack_pending.proofs.Unknown.{counted_one, counted_set, counted_some, counted_few, byte_few}
use Rattle.crack_pending.proofs.list.PendingList.remember.Goals as goal

pub unknowns_without-requires-clause-counted : goal.unknowns_without-requires-clause-counted
unknowns_without-requires-clause-counted g c = λ is.
    let a = c.self.invariant.0 in
    let i = c.self.inside in
    let with = rw (c.deref.ensures.value, c.slot.ensures) at c.in-Some.ensures.found in
    omega (arith, c.self.invariant.1, counted_some i.tags.remembered i.stands.items (memories-beside a) c.in-Some.spot with.stands_there is)

pub overflow_add-self : goal.overflow_add-self
overflow_add-self g c =
    let a = c.self.invariant.0 in
    let i = c.self.inside in
    let less = c.unknowns_without.ensures in
    omega (arith, c.self.invariant.1, less, counted_few i.tags.remembered i.stands.items (memories-beside a), a.few, a.remembered_beside, byte_few (nat_eq c.key.result unknown))

pub invariant_of-self : goal.invariant_of-self
invariant_of-self g c =
    let a = c.self.invariant.0 in
    let i = c.self.inside in
    let with = rw (c.deref.ensures.value, c.slot.ensures) at c.in-Some.ensures.found in
    let less = c.unknowns_without.ensures in
    let covered : length c.spot_noted.new.spots.items ≡ length i.spots.items = omega (arith, c.spot_noted.ensures.covered) in
    let all = c.spot_noted.ensures.all in
    let led = rw (c.deref.ensures.value) at c.spot_noted.ensures.led in
    let noted = kept_noted a c.spot_noted.new.spots.items (omega (arith, c.spot_noted.ensures.covered)) led in
    rw (all, c.remember.ensures) (
      kept_memory noted c.in-Some.spot c.args.remembered,
      omega (arith, c.self.invariant.1, less, counted_one c.key.result ∙ ap (λ k. times unknown (k ∷ [])) c.key.ensures, counted_set i.tags.remembered i.stands.items (memories-beside a) c.in-Some.spot c.args.remembered with.stands_there),
      rw (c.recode.ensures, c.key-in-Some.ensures) (coded_key i.tags.remembered i.stands.items i.codes c.self.invariant.2 c.in-Some.spot c.args.remembered with.stands_there),
      rw covered c.self.invariant.3,
    )

pub returns-in-Some-clause-after : goal.returns-in-Some-clause-after
returns-in-Some-clause-after g c =
    let a = c.self.invariant.0 in
    let with = rw (c.deref.ensures.value, c.slot.ensures) at c.in-Some.ensures.found in
    rw (← c.self.view_is, c.remember.ensures) (same_view _ _ _ _ _ _ _ refl (other_memory a with c.args.remembered) (omega (arith, c.spot_noted.ensures.covered)))

pub returns-in-Some-clause-remembered : goal.returns-in-Some-clause-remembered
returns-in-Some-clause-remembered g c = λ cells cells' is others r.
    let a = c.self.invariant.0 in
    let with = rw (c.deref.ensures.value, c.slot.ensures) at c.in-Some.ensures.found in
    let right = rw (← c.self.view_is) at is in
    let known = rw (← c.self.view_is) at r in
    rw c.remember.ensures (anew a with cells cells' c.args.remembered right others known)

pub returns-in_default-clause-after : goal.returns-in_default-clause-after
returns-in_default-clause-after g c =
    let a = c.self.invariant.0 in
    let nowhere = rw (c.deref.ensures.value, c.slot.ensures) at c.in_default.ensures.found in
    let some = rw (← c.self.view_is) at c.requires in
    absurd (omega (arith, some, nowhere-times c.self.inside.tags.handles c.self.inside.stands.items a.stands_beside c.args.handle.slot nowhere))

pub returns-in_default-clause-remembered : goal.returns-in_default-clause-remembered
returns-in_default-clause-remembered g c =
    let a = c.self.invariant.0 in
    let nowhere = rw (c.deref.ensures.value, c.slot.ensures) at c.in_default.ensures.found in
    let some = rw (← c.self.view_is) at c.requires in
    absurd (omega (arith, some, nowhere-times c.self.inside.tags.handles c.self.inside.stands.items a.stands_beside c.args.handle.slot nowhere))
