use Rattle.std.proofs.Common.{◌≡◌, ◌∷◌, []}
use Rattle.crack_index.specs.Marks.{next_mark}
use Rattle.crack_state.specs.State.{Carried}
use Rattle.crack_state.specs.Steps.{hand_key, raise_next}
use Rattle.crack_state.proofs.StepLaws.{IsIntact-appended}
use Rattle.crack_store.specs.Inside.{lists_of}
use Rattle.crack_store.specs.Hand.{hand_of, carried_of}
use Rattle.crack_store.proofs.EdgeLemmas.{positions_small}
use Rattle.crack_store.proofs.NextLemmas.{next_listed}
use Rattle.crack_store.proofs.RememberLemmas.{KeepsIntact-column}
use Rattle.crack_store.proofs.steps.put_last.Goals as goal

pub raise_next-requires-clause-there : goal.raise_next-requires-clause-there
raise_next-requires-clause-there c =
    next_listed (lists_of c.args.inside.now) (hand_of c.args.inside.now ∷ []) (hand_key (carried_of c.args.inside.now)) c.args.above c.requires.hand.kept.intact c.requires.above

pub raise_next-requires-clause-small : goal.raise_next-requires-clause-small
raise_next-requires-clause-small c = positions_small (lists_of c.args.inside.now) (hand_of c.args.inside.now ∷ []) c.requires.hand.kept.intact

pub returns-clause-intact : goal.returns-clause-intact
returns-clause-intact c =
    let carried : Carried = carried_of c.args.inside.now in
    let marks : c.raise_next.new.index.marks ≡ raise_next (next_mark (hand_key carried) carried.store.marks) carried.store.marks = rw c.requires.above at c.raise_next.ensures.marks in
    KeepsIntact-column c.args.inside.now _ _ _ _ (carried.hand ∷ []) [] c.requires.hand.kept (rw (c.append_aside.ensures.after, marks) (IsIntact-appended carried c.requires.ends c.requires.hand.kept.intact)) (c.append_aside.ensures.remembered carried.store.cells c.requires.hand.kept.remembers c.requires.hand.agrees)
