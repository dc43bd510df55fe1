use denote.Param.Send.{sendable}
use Rattle.std.proofs.Crossing.{crosses}
use Rattle.crack_witness.proofs.Crosses.{worker-send}
use Rattle.crack_table.proofs.Crosses.{table-sync}
use Rattle.crack_server.proofs.service.serve_workers.Goals as goal

pub serve_connections-requires-send-D : goal.serve_connections-requires-send-D
serve_connections-requires-send-D g c κs within =
    let runtime = c.type_bounds.sync-Rt in
    let gate = c.type_bounds.sync-G in
    let name = c.type_bounds.send-J in
    let table = table-sync _ g.J.Naming name in
    let worker = worker-send _ g.J.Naming name in
    search (sendable, crosses) depth 40
