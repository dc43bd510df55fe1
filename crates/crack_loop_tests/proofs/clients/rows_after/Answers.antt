use denote.Param.Send.{sendable}
use Rattle.std.proofs.Crossing.{crosses}
use Rattle.crack_core.proofs.Crosses.{inside-send}
use Rattle.crack_loop_tests.proofs.clients.rows_after.Goals as goal

pub serve_connections-requires-send-D : goal.serve_connections-requires-send-D
serve_connections-requires-send-D g c κs within = let i = inside-send in search (sendable, crosses) depth 40
