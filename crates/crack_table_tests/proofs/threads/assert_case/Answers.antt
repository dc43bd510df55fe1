use denote.Param.Send.{sendable}
use Rattle.std.proofs.Crossing.{crosses}
use Rattle.crack_table.proofs.Crosses.{table-sync}
use Rattle.crack_table_tests.proofs.threads.assert_case.Goals as goal

pub map_vec-done-requires-sync-F : goal.map_vec-done-requires-sync-F
map_vec-done-requires-sync-F g c κs within =
    let runtime = c.type_bounds.sync-R in
    let table = table-sync _ g.J.Naming c.type_bounds.send-J in
    search (sendable, crosses) depth 40
