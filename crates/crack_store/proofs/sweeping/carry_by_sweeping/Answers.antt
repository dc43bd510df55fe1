use Rattle.std.proofs.Common.{[], refl, arith}
use Rattle.crack_state.specs.Steps.{SameButRoom}
use Rattle.crack_state.proofs.LayoutLaws.{cells-intact}
use Rattle.crack_store.specs.Inside.{lists_of}
use Rattle.crack_store.proofs.SweepWalks.{swept-room}
use Rattle.crack_store.proofs.TakeLemmas.{inside-few}
use Rattle.crack_store.proofs.sweeping.carry_by_sweeping.Goals as goal

pub reserve-requires : goal.reserve-requires
reserve-requires c =
    let p = c.args.inside.now in
    let intact = c.requires.intact.intact in
    omega (arith, cells-intact (lists_of p) [] intact, intact.few_cells, c.requires.count, inside-few p.arena.cells c.args.range p.pending_in.handles)

pub returns-clause-carried : goal.returns-clause-carried
returns-clause-carried c = λ _.
    let p = c.args.inside.now in
    let made : SameButRoom (lists_of p) (lists_of (record p { column = c.reserve.new.self })) = record { same = rw c.reserve.ensures.same refl } in
    swept-room c.args.range (lists_of p) c.requires.intact.intact (lists_of (record p { column = c.reserve.new.self })) _ made c.sweep_rows.ensures.carried
