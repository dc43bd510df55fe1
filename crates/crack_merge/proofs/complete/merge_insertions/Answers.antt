use Rattle.std.proofs.Common.{◌<◌, ◌≤◌, length, refl, ap, ◌∙◌, arith}
use Rattle.std.proofs.lemmas.List.{drop_all}
use Rattle.crack_row.specs.declared.command.Policy.TheVariants.{Complete}
use Rattle.crack_state.specs.Steps.{SameButRoom}
use Rattle.crack_merge.specs.Loops.{ended_carry}
use Rattle.crack_merge.proofs.AtOnce.{SameButRoom-trans}
use Rattle.crack_merge.proofs.CarryLaws.{Stops-Advances}
use Rattle.crack_merge.proofs.Ending.{EndsAlike, EndsAlike-room, IsIntact-ended, HasRoom-ended}
use Rattle.crack_merge.proofs.CarryLaws.{PutsFirst, PutsFirst-none, PutsFirst-room, IsNext-next}
use Rattle.crack_merge.proofs.complete.merge_insertions.Goals as goal
use Rattle.crack_merge.proofs.complete.merge_insertions.Goals.{After-end-stopped, After-make_room, After-make_room-in-insertions}

-- room was made for the first
made : (c : After-make_room) → SameButRoom c.args.store c.make_room.new.self
made c = SameButRoom-trans c.args.store c.merge_insertions_at_once.new.store c.make_room.new.self (c.merge_insertions_at_once.ensures.same c.if-merge_insertions_at_once.false) c.make_room.ensures.same

-- no memory was found for it
none : (c : After-make_room) → PutsFirst c.args.store c.make_room.new.self 0
none c = PutsFirst-none c.args.store c.make_room.new.self (made c)

pub returns-in-Err-clause-stops : goal.returns-in-Err-clause-stops
returns-in-Err-clause-stops c = λ range. Stops-Advances Complete c.args.store c.make_room.new.self range (none (goal.at.returns-in-Err-clause-stops c).After-make_room).puts.advances c.recall_invariant-in-Err.ensures (0, omega arith, (none (goal.at.returns-in-Err-clause-stops c).After-make_room).pending_in)

pub returns-in-Err-clause-spare : goal.returns-in-Err-clause-spare
returns-in-Err-clause-spare c = λ none. absurd (omega (arith, c.merge_insertions_at_once.ensures.some c.if-merge_insertions_at_once.false, ap length none))

pub returns-in-Err-clause-few : goal.returns-in-Err-clause-few
returns-in-Err-clause-few c = (none (goal.at.returns-in-Err-clause-few c).After-make_room).puts.few

pub insertions-init : goal.insertions-init
insertions-init c =
    let some : 0 < length c.args.store.pending_in = c.merge_insertions_at_once.ensures.some c.if-merge_insertions_at_once.false in
    rw c.lift-carrying.ensures.after (IsNext-next c.args.store c.args.store c.make_room.new.self 0 (PutsFirst-none c.args.store c.args.store (record { same = refl })) (made (goal.at.insertions-init c).After-make_room) some c.recall_invariant.ensures (record { column = c.in_default.ensures.column; pending_in = c.in_default.ensures.pending_in }))

-- room was made while a row was in hand
alike : (c : After-make_room-in-insertions) → EndsAlike c.carry-rule.result c.carry-rule.new.carrying c.make_room-in-insertions.new.self
alike c = let made = c.make_room-in-insertions in EndsAlike-room c.carry-rule.result c.carry-rule.new.carrying made.new.self made.ensures.same made.ensures.hand

pub end-stopped-requires-clause-ends : goal.end-stopped-requires-clause-ends
end-stopped-requires-clause-ends c = (alike (goal.at.end-stopped-requires-clause-ends c).After-make_room-in-insertions).may c.carry-rule.ensures.ends

pub end_and_lift-requires-clause-ends : goal.end_and_lift-requires-clause-ends
end_and_lift-requires-clause-ends c = (alike (goal.at.end_and_lift-requires-clause-ends c).After-make_room-in-insertions).may c.carry-rule.ensures.ends

-- no memory was found for a later one
stopped : (c : After-end-stopped) → PutsFirst c.args.store c.end-stopped.result c.insertions.taken
stopped c =
    let rule = c.carry-rule.result in
    let here = c.carry-rule.new.carrying in
    let made = c.make_room-in-insertions in
    let same = (EndsAlike-room rule here made.new.self made.ensures.same made.ensures.hand).same in
    rw c.end-stopped.ensures (PutsFirst-room c.args.store (ended_carry rule here) (ended_carry rule made.new.self) c.insertions.taken (c.insertions.invariant.puts (ended_carry rule here) c.carry-rule.ensures.carries) same)

pub returns-in-Err-make_room-clause-stops : goal.returns-in-Err-make_room-clause-stops
returns-in-Err-make_room-clause-stops c =
    let within : c.insertions.taken ≤ length c.args.store.pending_in = omega (arith, c.insertions-test.true, c.pending_in-count.ensures) in
    λ range. Stops-Advances Complete c.args.store c.end-stopped.result range (stopped (goal.at.returns-in-Err-make_room-clause-stops c).After-end-stopped).puts.advances c.recall_invariant-in-Err-make_room.ensures (c.insertions.taken, within, (stopped (goal.at.returns-in-Err-make_room-clause-stops c).After-end-stopped).pending_in)

pub returns-in-Err-make_room-clause-spare : goal.returns-in-Err-make_room-clause-spare
returns-in-Err-make_room-clause-spare c = λ none. absurd (omega (arith, c.insertions-test.true, c.pending_in-count.ensures, ap length none))

pub returns-in-Err-make_room-clause-few : goal.returns-in-Err-make_room-clause-few
returns-in-Err-make_room-clause-few c = (stopped (goal.at.returns-in-Err-make_room-clause-few c).After-end-stopped).puts.few

pub insertions-preserved : goal.insertions-preserved
insertions-preserved c =
    let rule = c.carry-rule.result in
    let here = c.carry-rule.new.carrying in
    let made = c.make_room-in-insertions.new.self in
    let was = c.insertions.invariant.puts (ended_carry rule here) c.carry-rule.ensures.carries in
    let less : c.insertions.taken < length c.args.store.pending_in = omega (arith, c.insertions-test.true, c.pending_in-count.ensures) in
    rw c.end_and_lift.ensures (IsNext-next c.args.store (ended_carry rule here) (ended_carry rule made) c.insertions.taken was (alike (goal.at.insertions-preserved c).After-make_room-in-insertions).same less (IsIntact-ended rule here c.carry-rule.ensures.ends c.recall_invariant-in-insertions.ensures) (HasRoom-ended rule made c.in_default-make_room.ensures.column c.in_default-make_room.ensures.pending_in))

pub returns-clause-all : goal.returns-clause-all
returns-clause-all c =
    let was = c.insertions.invariant.puts (ended_carry c.carry-rule-2.result c.carry-rule-2.new.carrying) c.carry-rule-2.ensures.carries in
    rw c.end.ensures (was.pending_in ∙ drop_all c.insertions.taken c.args.store.pending_in (omega (arith, c.insertions-test.false, c.pending_in-count.ensures)))

pub returns-clause-ok : goal.returns-clause-ok
returns-clause-ok c =
    let was = c.insertions.invariant.puts (ended_carry c.carry-rule-2.result c.carry-rule-2.new.carrying) c.carry-rule-2.ensures.carries in
    rw c.end.ensures was.puts
