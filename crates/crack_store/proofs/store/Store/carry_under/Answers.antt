use Rattle.std.proofs.Common.{[], refl, arith}
use Rattle.crack_state.specs.Steps.{SameButRoom}
use Rattle.crack_state.proofs.LayoutLaws.{cells-intact}
use Rattle.crack_store.specs.Inside.{lists_of}
use Rattle.crack_store.specs.Keeps.{KeepsIntact}
use Rattle.crack_store.proofs.UnderLemmas.{KeepsIntact-roomier, none_left, carried-room}
use Rattle.crack_store.proofs.store.Store.carry_under.Goals as goal
use Rattle.crack_store.proofs.store.Store.carry_under.Goals.{After-most_in-most}

-- the invariant holds after rows were counted
kept : (c : After-most_in-most) → KeepsIntact c.most_in-most.new.inside []
kept c = rw c.most_in-most.ensures.same c.self.invariant

pub reserve-requires : goal.reserve-requires
reserve-requires c =
    let intact = c.self.invariant.intact in
    rw c.most_in-most.ensures.same (omega (arith, cells-intact (lists_of c.self.inside.inside) [] intact, intact.few_cells, c.most_in-most.ensures.few))

pub reserve-requires-2 : goal.reserve-requires-2
reserve-requires-2 c =
    let intact = c.self.invariant.intact in
    let long = rw c.most_in-most.ensures.same at c.len.ensures.value in
    rw c.most_in-most.ensures.same (omega (arith, cells-intact (lists_of c.self.inside.inside) [] intact, intact.few_cells, c.min-evicted.ensures, long))

pub invariant_of-self-then-is_err : goal.invariant_of-self-then-is_err
invariant_of-self-then-is_err c = KeepsIntact-roomier c.most_in-most.new.inside c.reserve.new.self c.most_in-most.new.inside.pending_in (kept (goal.at.invariant_of-self-then-is_err c).After-most_in-most) c.reserve.ensures.same refl (omega arith)

pub invariant_of-self-then-is_err-2 : goal.invariant_of-self-then-is_err-2
invariant_of-self-then-is_err-2 c = KeepsIntact-roomier c.most_in-most.new.inside c.reserve.new.self c.reserve-2.new.self (kept (goal.at.invariant_of-self-then-is_err-2 c).After-most_in-most) c.reserve.ensures.same c.reserve-2.ensures.same c.reserve-2.ensures.kept

pub carry_rows-requires-clause-intact : goal.carry_rows-requires-clause-intact
carry_rows-requires-clause-intact c = KeepsIntact-roomier c.most_in-most.new.inside c.reserve.new.self c.reserve-2.new.self (kept (goal.at.carry_rows-requires-clause-intact c).After-most_in-most) c.reserve.ensures.same c.reserve-2.ensures.same c.reserve-2.ensures.kept

pub returns-clause-carried : goal.returns-clause-carried
returns-clause-carried c = λ _.
    let p = c.self.inside.inside in
    let t = lists_of (record p { column = c.reserve.new.self; pending_in = c.reserve-2.new.self }) in
    let done = rw c.most_in-most.ensures.same at c.carry_rows.ensures.carried in
    let column = rw c.most_in-most.ensures.same at c.reserve.ensures.same in
    let pending = rw c.most_in-most.ensures.same at c.reserve-2.ensures.same in
    let made : SameButRoom (lists_of p) t = record { same = rw (column, pending) refl } in
    rw (← c.self.view_is) (rw (← c.in-Some.ensures.same) (carried-room c.args.range (lists_of p) c.in-Some.edge c.self.invariant.intact c.in-Some.ensures.there (none_left p.pending_out.handles (c.is_empty.ensures.0 c.if-not-is_empty.false)) (rw (← c.in-Some.ensures.same) at c.requires.high) t _ made done))
