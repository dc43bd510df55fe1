use Rattle.std.proofs.Common.{◌≡◌, ◌+◌, ◌∷◌, [], None, refl, arith, length-set}
use Rattle.crack_arena.specs.Arena.{freed_at, read}
use Rattle.crack_state.specs.State.{Carried}
use Rattle.crack_state.specs.Steps.{buried}
use Rattle.crack_state.proofs.OwnedLaws.{hand_apart}
use Rattle.crack_state.proofs.CellLaws.{AgreeOff-set}
use Rattle.crack_state.proofs.BuryLaws.{doomed_stands, off_buried, freed-doomed, IsIntact-buried, live_rows-buried}
use Rattle.crack_store.specs.Hand.{hand_of, carried_of}
use Rattle.crack_store.proofs.HandLemmas.{when_some}
use Rattle.crack_store.proofs.RememberLemmas.{Remembers-off}
use Rattle.crack_store.proofs.steps.free_hand.Goals as goal

pub strike-requires : goal.strike-requires
strike-requires c = rw c.aside-hand.ensures c.requires.doomed

pub free-requires : goal.free-requires
free-requires c =
    let carried : Carried = carried_of c.args.inside.now in
    freed-doomed carried.store (carried.hand ∷ []) (omega (arith, (doomed_stands carried c.requires.doomed c.requires.hand.kept.intact).within)) c.requires.hand.kept.intact

-- the cell of the hand is freed
freed : (c : goal.After-inside-1) → c.free.new.self ≡ freed_at (hand_of c.args.inside.now) c.args.inside.now.arena
freed c =
    let arena = c.args.inside.now.arena in
    let hand = hand_of c.args.inside.now in
    let reads = c.requires.hand.kept.intact.owned.hand_reads 0 hand (omega arith) in
    when_some c.free.result (read arena.cells hand) (c.free.new.self ≡ arena) (c.free.new.self ≡ freed_at hand arena) (rw c.aside-hand.ensures at c.free.ensures.value) reads (rw c.aside-hand.ensures at c.free.ensures.after)

pub returns-clause-intact : goal.returns-clause-intact
returns-clause-intact c =
    let carried : Carried = carried_of c.args.inside.now in
    let s = carried.store in
    let hand = carried.hand in
    let apart = hand_apart s.cells s.free s.column s.pending_in s.pending_out hand c.requires.hand.kept.intact.owned in
    let agree = AgreeOff-set s.cells hand.slot (record { generation = hand.generation + 1; value = None }) in
    record {
      intact = rw (freed c, c.shrink_if_empty.ensures.same, c.strike.ensures.handles, c.aside-hand.ensures, c.saturating_add-inside.ensures) (IsIntact-buried carried c.requires.doomed c.requires.hand.kept.intact);
      remembers = rw (freed c) (Remembers-off hand.slot s.cells (buried carried).cells s.column c.args.inside.now.column.remembered agree apart.off_column c.requires.hand.kept.remembers);
      keys_in = rw (freed c) (Remembers-off hand.slot s.cells (buried carried).cells s.pending_in c.args.inside.now.pending_in.remembered agree apart.off_pending c.requires.hand.kept.keys_in);
      keys_out = rw (freed c) (Remembers-off hand.slot s.cells (buried carried).cells c.shrink_if_empty.new.self.handles c.shrink_if_empty.new.self.remembered agree (rw (c.shrink_if_empty.ensures.same, c.strike.ensures.handles, c.aside-hand.ensures) (off_buried carried c.requires.doomed c.requires.hand.kept.intact)) (c.shrink_if_empty.ensures.remembered s.cells (c.strike.ensures.remembered s.cells c.requires.hand.kept.keys_out)));
      room = c.requires.hand.kept.room;
      covered = rw (freed c) (omega (arith, c.requires.hand.kept.covered, length-set s.cells hand.slot (record { generation = hand.generation + 1; value = None })));
    }

pub returns-clause-after : goal.returns-clause-after
returns-clause-after c = rw (freed c, c.shrink_if_empty.ensures.same, c.strike.ensures.handles, c.aside-hand.ensures, c.saturating_add-inside.ensures) refl

pub returns-clause-live : goal.returns-clause-live
returns-clause-live c = rw (freed c, c.shrink_if_empty.ensures.same, c.strike.ensures.handles, c.aside-hand.ensures) (live_rows-buried (carried_of c.args.inside.now) c.requires.doomed c.requires.hand.kept.intact)
