use Rattle.std.proofs.Common.{arith}
use Rattle.crack_table.proofs.Counts.{are_counted, are_small, are_totals}
use Rattle.crack_table.proofs.totals.sums_of.Goals as goal

pub inserted_in-inserted-requires : goal.inserted_in-inserted-requires
inserted_in-inserted-requires g c =
    let own = g.J.Naming.owner in
    (are_small own c.args.parts.now.items (are_counted own c.args.parts.now.items c.requires.whole c.requires.sound) c.requires.few).inserted_fits

pub rows_in-held-requires : goal.rows_in-held-requires
rows_in-held-requires g c =
    let own = g.J.Naming.owner in
    (are_small own c.args.parts.now.items (are_counted own c.args.parts.now.items c.requires.whole c.requires.sound) c.requires.few).rows_fit

pub accepted_in-requires : goal.accepted_in-requires
accepted_in-requires g c =
    let own = g.J.Naming.owner in
    (are_small own c.args.parts.now.items (are_counted own c.args.parts.now.items c.requires.whole c.requires.sound) c.requires.few).accepted_fits

pub overflow_sub-result : goal.overflow_sub-result
overflow_sub-result g c =
    let own = g.J.Naming.owner in
    let small = are_small own c.args.parts.now.items (are_counted own c.args.parts.now.items c.requires.whole c.requires.sound) c.requires.few in
    omega (arith, small.enough, c.inserted_in-inserted.ensures, c.rows_in-held.ensures)

pub returns : goal.returns
returns g c =
    let own = g.J.Naming.owner in
    let ws = c.args.parts.now.items in
    let are = are_counted own ws c.requires.whole c.requires.sound in
    let small = are_small own ws are c.requires.few in
    are_totals own ws c.accepted_in.result c.inserted_in-inserted.result c.rows_in-held.result _ are c.accepted_in.ensures c.inserted_in-inserted.ensures c.rows_in-held.ensures (omega (arith, c.inserted_in-inserted.ensures, c.rows_in-held.ensures, small.enough))
