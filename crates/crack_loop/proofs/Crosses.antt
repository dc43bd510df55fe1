-- What a thread of a server waits with may go to it, and threads may share a server: level by level, since one search through all of it runs out of steps.
use denote.Param.Send.{IsSend, IsSync, struct_send, struct_sync, sendable}
use denote.Struct.Declared.{shape}
use Rattle.std.proofs.Crossing.{crosses}
use Rattle.crack_loop.specs.contracts.admission.Admission as Admission
use Rattle.crack_loop.specs.contracts.pace.Pace as Pace
use Rattle.crack_loop.specs.contracts.server.Post as Post

-- poll, listener, events
pub post-send : IsSend Post.the_field.row
post-send = struct_send (shape Post.the_type) (search (sendable, crosses) depth 30, (search (sendable, crosses) depth 30, (search (sendable, crosses) depth 30, tt)))

-- progress, is_over, is_stopping
pub admission-sync : IsSync Admission.the_field.row
admission-sync = struct_sync (shape Admission.the_type) (search (sendable, crosses) depth 30, (search (sendable, crosses) depth 30, (search (sendable, crosses) depth 30, tt)))

-- answered, longest, second
pub pace-send : IsSend Pace.the_field.row
pace-send = struct_send (shape Pace.the_type) (search (sendable, crosses) depth 30, (search (sendable, crosses) depth 30, (search (sendable, crosses) depth 30, tt)))
