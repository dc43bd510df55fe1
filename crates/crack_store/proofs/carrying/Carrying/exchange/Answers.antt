use Rattle.std.proofs.Common.{length, ◌<◌, ◌≤◌, refl, arith}
use Rattle.crack_state.specs.State.{Carried}
use Rattle.crack_state.specs.Steps.{hand_key, piece_start, piece_end, exchanged}
use Rattle.crack_state.proofs.PieceLaws.{piece_end-le}
use Rattle.crack_state.proofs.PullLaws.{IsIntact-exchanged}
use Rattle.crack_state.proofs.NearLaws.{next-exchanged}
use Rattle.crack_store.specs.Hand.{carried_of}
use Rattle.crack_store.proofs.HandLemmas.{IsMade, exchanged_to}
use Rattle.crack_store.proofs.NextLemmas.{IsNear-same}
use Rattle.crack_store.proofs.carrying.Carrying.exchange.Goals as goal
use Rattle.crack_store.proofs.carrying.Carrying.exchange.Goals.{After-note_if_doomed}

-- the place lies in the column
within : (c : After-note_if_doomed) → c.args.place < length c.self.inside.inside.column.handles
within c =
    let carried : Carried = carried_of c.self.inside.inside in
    let to : c.args.place < piece_end carried.store (hand_key carried) = rw (← c.self.view_is) at c.requires.to in
    let intact = c.self.invariant.has.kept.intact in
    omega (arith, to, piece_end-le carried.store (hand_key carried) intact.rising intact.obeyed)

pub exchange-requires-clause-within : goal.exchange-requires-clause-within
exchange-requires-clause-within c = within (goal.at.exchange-requires-clause-within c).After-note_if_doomed

-- the hand is put there
made : (c : goal.After-self-1) → IsMade (record c.self.inside.inside { column = c.exchange.new.self; notes = c.note_if_doomed.new.notes; tally = record c.self.inside.inside.tally { pulled = c.saturating_add-self-inside.result } }) c.self.inside.near (exchanged c.args.place (carried_of c.self.inside.inside))
made c =
    let carried : Carried = carried_of c.self.inside.inside in
    let place = c.args.place in
    let from : piece_start carried.store (hand_key carried) ≤ place = rw (← c.self.view_is) at c.requires.from in
    let to : place < piece_end carried.store (hand_key carried) = rw (← c.self.view_is) at c.requires.to in
    let intact = c.self.invariant.has.kept.intact in
    exchanged_to c.self.inside.inside c.exchange.new.self _ c.note_if_doomed.new.notes _ place _ _ c.self.invariant.has c.exchange.ensures.after (within (goal.at.returns-clause-after c).After-note_if_doomed) (rw c.saturating_add-self-inside.ensures refl) (IsIntact-exchanged place carried from to intact) (IsNear-same carried.store.marks (hand_key carried) (hand_key (exchanged place carried)) c.self.inside.near (next-exchanged place carried from to intact) c.self.invariant.is_near)

pub invariant_of-self : goal.invariant_of-self
invariant_of-self c = (made c).keeps

pub returns-clause-after : goal.returns-clause-after
returns-clause-after c = rw (← c.self.view_is) (made c).is
