use denote.Param.Send.{sendable}
use Rattle.std.proofs.Crossing.{crosses}
use Rattle.crack_server.proofs.batch.fn.serve_all.scope.Goals as goal

pub spawn-requires-send-F : goal.spawn-requires-send-F
spawn-requires-send-F g c κs within =
    let desk = c.requires.1.1 in
    search (sendable, crosses) depth 40

pub spawn-requires-send-T : goal.spawn-requires-send-T
spawn-requires-send-T g c κs within =
    let desk = c.requires.1.1 in
    search (sendable, crosses) depth 40
