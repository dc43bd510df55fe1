use Rattle.std.proofs.Common.{◌≡◌, ◌<◌, length, None, subst, sym, ◌∙◌, arith}
use Rattle.crack_index.specs.Marks.{next_mark}
use Rattle.crack_state.specs.State.{Carried}
use Rattle.crack_state.specs.Steps.{hand_key, pushed_on, bounds_above}
use Rattle.crack_store.specs.Hand.{carried_of}
use Rattle.crack_store.specs.declared.carrying.Near.TheVariants.{Above}
use Rattle.crack_store.proofs.HandLemmas.{IsMade, exchanged_to}
use Rattle.crack_store.proofs.NextLemmas.{IsUp, is_up}
use Rattle.crack_store.proofs.carrying.Carrying.push_on.Goals as goal
use Rattle.crack_store.proofs.carrying.Carrying.push_on.Goals.{In-Some}

pub unreachable-unreachable : goal.unreachable-unreachable
unreachable-unreachable c =
    let now = c.args.self.now in
    let none : next_mark (hand_key now) now.store.marks ≡ None = sym c.bound_above.ensures ∙ c.in_default.is in
    let within : length now.store.column < length now.store.column = rw none at c.requires in
    absurd (omega arith)

-- the bound that was found
up : (c : In-Some) → IsUp (carried_of c.self.inside.inside) c.in-Some.mark
up c = is_up (carried_of c.self.inside.inside) c.in-Some.mark (sym (rw (← c.self.view_is) at c.bound_above.ensures) ∙ c.in-Some.is) (rw (← c.self.view_is) at c.requires) c.self.invariant.has.kept.intact

pub raise_past-next-requires-clause-there : goal.raise_past-next-requires-clause-there
raise_past-next-requires-clause-there c = (up (goal.at.raise_past-next-requires-clause-there c).In-Some).listed

pub raise_past-next-requires-clause-small : goal.raise_past-next-requires-clause-small
raise_past-next-requires-clause-small c = (up (goal.at.raise_past-next-requires-clause-small c).In-Some).small

pub exchange-requires-clause-within : goal.exchange-requires-clause-within
exchange-requires-clause-within c = (up (goal.at.exchange-requires-clause-within c).In-Some).within

-- the hand is put there
made : (c : goal.After-self-2-1) → IsMade (record c.self.inside.inside { column = c.exchange.new.self; index = c.raise_past-next.new.self; tally = record c.self.inside.inside.tally { moved = c.saturating_add-self-inside.result } }) (Above c.raise_past-next.result) (pushed_on (carried_of c.self.inside.inside))
made c =
    let found = up (goal.at.returns-clause-after c).In-Some in
    exchanged_to c.self.inside.inside c.exchange.new.self c.raise_past-next.new.self _ _ _ _ _ c.self.invariant.has c.exchange.ensures.after found.within (rw (c.raise_past-next.ensures.marks, c.saturating_add-self-inside.ensures) found.after) found.intact (rw found.next c.raise_past-next.ensures.next)

pub invariant_of-self : goal.invariant_of-self
invariant_of-self c = (made c).keeps

pub returns-clause-after : goal.returns-clause-after
returns-clause-after c = rw (← c.self.view_is) (made c).is

pub returns-clause-nearer : goal.returns-clause-nearer
returns-clause-nearer c =
    let carried : Carried = carried_of c.self.inside.inside in
    rw (← c.self.view_is) (subst (λ (d : Carried). bounds_above (hand_key d) d.store.marks < bounds_above (hand_key carried) carried.store.marks) (sym (made c).is) (up (goal.at.returns-clause-nearer c).In-Some).nearer)
