use denote.Param.Send.{sendable}
use Rattle.std.proofs.Crossing.{crosses}
use Rattle.crack_loop.proofs.Crosses.{post-send, admission-sync, pace-send}
use Rattle.crack_loop.proofs.server.fn.serve_posts.scope.Goals as goal

pub spawn-requires-send-F : goal.spawn-requires-send-F
spawn-requires-send-F g c κs within =
    let desk = c.requires.1.1.1.1.0 in
    let runtime = c.requires.1.1.1.1.1 in
    let host = c.requires.1.1.1.1.2 in
    let post = post-send in
    let admission = admission-sync in
    let pace = pace-send in
    search (sendable, crosses) depth 60

pub spawn-requires-send-T : goal.spawn-requires-send-T
spawn-requires-send-T g c κs within =
    let desk = c.requires.1.1.1.1.0 in
    search (sendable, crosses) depth 40
