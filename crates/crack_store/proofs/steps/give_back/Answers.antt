use Rattle.std.proofs.Common.{refl, inr, arith}
use Rattle.crack_state.specs.State.{Carried}
use Rattle.crack_state.proofs.OwnedLaws.{hand_apart}
use Rattle.crack_state.proofs.PullLaws.{IsIntact-returned}
use Rattle.crack_store.specs.Inside.{lists_of}
use Rattle.crack_store.specs.Hand.{hand_of, carried_of}
use Rattle.crack_store.proofs.steps.give_back.Goals as goal

pub push_remembered-requires-clause-room : goal.push_remembered-requires-clause-room
push_remembered-requires-clause-room c = omega (arith, c.requires.room, c.requires.hand.kept.room)

pub push_remembered-requires-clause-covered : goal.push_remembered-requires-clause-covered
push_remembered-requires-clause-covered c =
    let s = lists_of c.args.inside.now in
    rw c.aside-hand.ensures (omega (arith, (hand_apart s.cells s.free s.column s.pending_in s.pending_out (hand_of c.args.inside.now) c.requires.hand.kept.intact.owned).within, c.requires.hand.kept.covered))

pub push_remembered-requires-clause-absent : goal.push_remembered-requires-clause-absent
push_remembered-requires-clause-absent c =
    let s = lists_of c.args.inside.now in
    rw c.aside-hand.ensures (hand_apart s.cells s.free s.column s.pending_in s.pending_out (hand_of c.args.inside.now) c.requires.hand.kept.intact.owned).off_pending

pub returns-clause-after : goal.returns-clause-after
returns-clause-after c = rw (c.push_remembered.ensures.after, c.saturating_add-inside.ensures, c.aside-hand.ensures) refl

pub returns-clause-intact : goal.returns-clause-intact
returns-clause-intact c =
    let carried : Carried = carried_of c.args.inside.now in
    record {
      intact = rw (c.push_remembered.ensures.after, c.saturating_add-inside.ensures, c.aside-hand.ensures) (IsIntact-returned carried c.requires.kept c.requires.hand.kept.intact);
      remembers = c.requires.hand.kept.remembers;
      keys_in = c.push_remembered.ensures.remembered carried.store.cells (inr c.or_read-known.ensures) c.requires.hand.kept.keys_in;
      keys_out = c.requires.hand.kept.keys_out;
      room = rw c.push_remembered.ensures.after (omega (arith, c.requires.hand.kept.room));
      covered = rw c.push_remembered.ensures.after c.requires.hand.kept.covered;
    }
