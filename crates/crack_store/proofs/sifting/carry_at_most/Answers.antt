use Rattle.std.proofs.Common.{[], refl, arith}
use Rattle.crack_state.specs.Steps.{SameButRoom}
use Rattle.crack_state.proofs.LayoutLaws.{cells-intact}
use Rattle.crack_store.specs.Inside.{lists_of}
use Rattle.crack_store.proofs.SiftLemmas.{carried-room}
use Rattle.crack_store.proofs.sifting.carry_at_most.Goals as goal

pub reserve-requires : goal.reserve-requires
reserve-requires c =
    let intact = c.requires.intact.intact in
    omega (arith, cells-intact (lists_of c.args.inside.now) [] intact, intact.few_cells, c.requires.few)

pub carry_rows-requires-clause-room : goal.carry_rows-requires-clause-room
carry_rows-requires-clause-room c = omega (arith, c.requires.most, c.in_default-reserve.ensures.ok)

pub returns-clause-carried : goal.returns-clause-carried
returns-clause-carried c = λ _.
    let p = c.args.inside.now in
    let made : SameButRoom (lists_of p) (lists_of (record p { column = c.reserve.new.self })) = record { same = rw c.reserve.ensures.same refl } in
    carried-room c.args.range (lists_of p) c.requires.intact.intact (lists_of (record p { column = c.reserve.new.self })) _ c.requires.clear made c.carry_rows.ensures.carried
