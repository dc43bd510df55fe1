use Rattle.std.proofs.Common.{◌≡◌, Some, inr, get_or, refl, ◌∙◌, arith}
use Rattle.std.proofs.lemmas.List.{get_or_default}
use Rattle.crack_arena.specs.Arena.{no_handle, read}
use Rattle.crack_state.proofs.StepLaws.{IsIntact-lifted}
use Rattle.crack_store.specs.Inside.{lists_of}
use Rattle.crack_store.proofs.steps.take_in.Goals as goal
use Rattle.crack_store.proofs.steps.take_in.Goals.{After-take-hand}

-- the hand is the pending insertion at the place
hand : (c : After-take-hand) → c.take-hand.result ≡ get_or c.args.inside.now.pending_in.handles c.args.place no_handle
hand c = c.take-hand.ensures.value.is ∙ get_or_default c.args.inside.now.pending_in.handles c.args.place c.take-hand.result no_handle c.requires.there

pub row_at-row-requires : goal.row_at-row-requires
row_at-row-requires c =
    rw (hand (goal.at.row_at-row-requires c).After-take-hand) (c.requires.intact.intact.owned.pending_reads c.args.place no_handle c.requires.there)

pub shrink_if_empty-requires : goal.shrink_if_empty-requires
shrink_if_empty-requires c = omega (arith, c.requires.intact.room, c.take-hand.ensures.room)

pub returns-clause-kept : goal.returns-clause-kept
returns-clause-kept c =
    let s = lists_of c.args.inside.now in
    let hand = hand (goal.at.returns-clause-kept c).After-take-hand in
    let reads : read s.cells (get_or s.pending_in c.args.place no_handle) ≡ Some c.row_at-row.result = rw hand at c.row_at-row.ensures in
    record {
      has = record {
        kept = record {
          intact = rw (c.set_aside.ensures, c.shrink_if_empty.ensures.same, c.take-hand.ensures.handles, hand, c.saturating_add-inside.ensures) (IsIntact-lifted c.args.place s c.requires.there c.requires.intact.intact);
          remembers = rw c.set_aside.ensures c.requires.intact.remembers;
          keys_in = c.shrink_if_empty.ensures.remembered s.cells (c.take-hand.ensures.remembered s.cells c.requires.intact.keys_in);
          keys_out = c.requires.intact.keys_out;
          room = c.shrink_if_empty.ensures.sure;
          covered = rw (c.shrink_if_empty.ensures.same, c.take-hand.ensures.covered) c.requires.intact.covered;
        };
        aside = rw c.set_aside.ensures (omega arith);
        agrees = rw c.set_aside.ensures (inr (rw (hand, reads) c.of.ensures));
        room = rw c.set_aside.ensures c.requires.room;
      };
      is_near = tt;
    }

pub returns-clause-after : goal.returns-clause-after
returns-clause-after c =
    rw (c.set_aside.ensures, c.shrink_if_empty.ensures.same, c.take-hand.ensures.handles, c.saturating_add-inside.ensures, hand (goal.at.returns-clause-after c).After-take-hand) refl
