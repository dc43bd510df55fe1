use Rattle.std.proofs.Common.{Some, None}
use Rattle.crack_merge.specs.Loops.{ended_carry}
use Rattle.crack_state.specs.Steps.{ceiling_of, SameButRoom}
use Rattle.crack_merge.specs.Merges.{begins, carries}
use Rattle.crack_merge.proofs.AtOnce.{SameButRoom-trans}
use Rattle.crack_merge.proofs.Ending.{EndsAlike, EndsAlike-room}
use Rattle.crack_merge.proofs.Ending.{Arrives, Arrives-ended, IsOnWay-next, left_in-less}
use Rattle.crack_merge.proofs.carries.carry_range.Goals as goal
use Rattle.crack_merge.proofs.carries.carry_range.Goals.{After-recall_invariant, After-make_room, After-make_room-in-insertions}

pub returns-in_default-clause-ok : goal.returns-in_default-clause-ok
returns-in_default-clause-ok c = c.in_default.ensures.carried

-- room was made for the first
made : (c : After-make_room) → SameButRoom c.args.store c.make_room.new.self
made c = SameButRoom-trans c.args.store c.first_to_carry.new.store c.make_room.new.self c.in-Some.ensures.same c.make_room.ensures.same

pub returns-in-Err-clause-stops : goal.returns-in-Err-clause-stops
returns-in-Err-clause-stops c = record { from = 0; last = c.args.store; carries = begins; next = c.in-Some.first; left = c.in-Some.ensures.first; room = made (goal.at.returns-in-Err-clause-stops c).After-make_room }

pub insertions-init : goal.insertions-init
insertions-init c =
    let room = c.in_default-make_room.ensures in
    rw c.lift-carrying.ensures.after (record {
      carries_in = λ t rest. carries 0 c.in-Some.first c.args.store c.make_room.new.self t begins c.in-Some.ensures.first (made (goal.at.insertions-init c).After-make_room) rest;
      room = record { column = room.column; pending_in = room.pending_in };
    })

-- the carry of the row in hand has reached the rule that ends it
arrives : (c : After-recall_invariant) → Arrives (ceiling_of c.args.ceiling) c.args.range c.args.store c.insertions.from c.carry-rule.result c.carry-rule.new.carrying
arrives c =
    Arrives-ended (ceiling_of c.args.ceiling) c.args.range c.requires c.args.store c.insertions.from c.insertions.carrying c.carry-rule.new.carrying c.carry-rule.result c.insertions.invariant c.carry-rule.ensures.carries c.recall_invariant.ensures c.carry-rule.ensures.evicts

-- room was made for the next
alike : (c : After-make_room-in-insertions) → EndsAlike c.carry-rule.result c.carry-rule.new.carrying c.make_room-in-insertions.new.self
alike c =
    let made = rw c.seek_in.ensures.same at c.make_room-in-insertions.ensures in
    EndsAlike-room c.carry-rule.result c.carry-rule.new.carrying c.make_room-in-insertions.new.self made.same made.hand

pub returns-in_default-seek_in-clause-ok : goal.returns-in_default-seek_in-clause-ok
returns-in_default-seek_in-clause-ok c =
    rw (c.end.ensures, c.seek_in.ensures.same) (record { from = c.insertions.from; carries = (arrives (goal.at.returns-in_default-seek_in-clause-ok c).After-recall_invariant).carries_in; none = (arrives (goal.at.returns-in_default-seek_in-clause-ok c).After-recall_invariant).finds None c.in_default-seek_in.ensures.finds })

pub returns-in-Err-make_room-clause-stops : goal.returns-in-Err-make_room-clause-stops
returns-in-Err-make_room-clause-stops c =
    rw c.end-in-Err-make_room.ensures (record {
      from = c.insertions.from;
      last = ended_carry c.carry-rule.result c.carry-rule.new.carrying;
      carries = (arrives (goal.at.returns-in-Err-make_room-clause-stops c).After-recall_invariant).carries_in;
      next = c.in-Some-seek_in.place;
      left = (arrives (goal.at.returns-in-Err-make_room-clause-stops c).After-recall_invariant).finds (Some c.in-Some-seek_in.place) c.in-Some-seek_in.ensures.finds;
      room = (alike (goal.at.returns-in-Err-make_room-clause-stops c).After-make_room-in-insertions).same;
    })

pub end-requires-in-Err-make_room-clause-ends : goal.end-requires-in-Err-make_room-clause-ends
end-requires-in-Err-make_room-clause-ends c = (alike (goal.at.end-requires-in-Err-make_room-clause-ends c).After-make_room-in-insertions).may c.carry-rule.ensures.ends

pub end_and_lift-requires-clause-ends : goal.end_and_lift-requires-clause-ends
end_and_lift-requires-clause-ends c = (alike (goal.at.end_and_lift-requires-clause-ends c).After-make_room-in-insertions).may c.carry-rule.ensures.ends

pub insertions-preserved : goal.insertions-preserved
insertions-preserved c =
    let room = c.in_default-make_room-2.ensures in
    rw c.end_and_lift.ensures (IsOnWay-next (ceiling_of c.args.ceiling) c.args.range c.args.store c.insertions.from c.in-Some-seek_in.place c.carry-rule.result c.carry-rule.new.carrying c.make_room-in-insertions.new.self (arrives (goal.at.insertions-preserved c).After-recall_invariant) (alike (goal.at.insertions-preserved c).After-make_room-in-insertions) c.in-Some-seek_in.ensures.finds room.column room.pending_in)

pub insertions-smaller : goal.insertions-smaller
insertions-smaller c =
    let less = left_in-less (ceiling_of c.args.ceiling) c.args.range c.args.store c.insertions.from c.in-Some-seek_in.place c.carry-rule.result c.carry-rule.new.carrying c.make_room-in-insertions.new.self (arrives (goal.at.insertions-smaller c).After-recall_invariant) (alike (goal.at.insertions-smaller c).After-make_room-in-insertions) c.in-Some-seek_in.ensures.finds in
    rw c.end_and_lift.ensures (rw (c.carry-rule.ensures.cells, c.carry-rule.ensures.pending_in) at less)
