use denote.Param.Send.{sendable}
use Rattle.std.proofs.Crossing.{crosses}
use Rattle.crack_witness.proofs.Crosses.{worker-send}
use Rattle.crack_table.proofs.Crosses.{table-sync}
use Rattle.crack_bench.proofs.workers.measuring.carry_out.Goals as goal

pub measure-outcome-requires-send-A : goal.measure-outcome-requires-send-A
measure-outcome-requires-send-A g c κs within =
    let runtime = c.type_bounds.sync-R in
    let table = table-sync _ g.J.Naming c.type_bounds.send-J in
    let worker = worker-send _ g.J.Naming c.type_bounds.send-J in
    search (sendable, crosses) depth 40
