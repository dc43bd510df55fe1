-- A store, known sums, commands, replies and a partition may go to another thread: level by level, since one search through all of them runs out of steps.
use denote.Param.Send.{IsSend, struct_send, sendable}
use denote.Struct.Declared.{shape}
use Rattle.std.proofs.Crossing.{crosses}
use Rattle.crack_row.specs.contracts.command.Command as Command
use Rattle.crack_row.specs.contracts.command.Reply as Reply
use Rattle.crack_store.proofs.Crosses.{index-send}
use Rattle.crack_store.specs.contracts.inside.Inside as Inside
use Rattle.crack_store.specs.contracts.store.Store as Store
use Rattle.crack_part.proofs.SumCrosses.{pieces-send}
use Rattle.crack_part.specs.contracts.known.KnownSums as KnownSums
use Rattle.crack_part.specs.contracts.partition.Partition as Partition
use Rattle.crack_part.specs.contracts.partition.Partition.TheInside as part

-- keys, arena, column, index, pending_in, pending_out, in_room, notes, serials, tally
inside-send : IsSend Inside.the_field.row
inside-send = struct_send (shape Inside.the_type) (
  search (sendable, crosses) depth 30,
  (
    search (sendable, crosses) depth 30,
    (
      search (sendable, crosses) depth 30,
      (
        index-send,
        (
          search (sendable, crosses) depth 30,
          (
            search (sendable, crosses) depth 30,
            (search (sendable, crosses) depth 30, (search (sendable, crosses) depth 30, (search (sendable, crosses) depth 30, (search (sendable, crosses) depth 30, tt)))),
          ),
        ),
      ),
    ),
  ),
)

pub store-send : IsSend Store.the_row
store-send = let i = inside-send in search (sendable, crosses) depth 20

pub command-send : IsSend Command.the_field.row
command-send = search (sendable, crosses) depth 30

pub reply-send : IsSend Reply.the_field.row
reply-send = search (sendable, crosses) depth 30

known-send : IsSend KnownSums.the_field.row
known-send = let p = pieces-send in search (sendable, crosses) depth 30

-- alloc, keys, limits, next, checkpointed, since, store, passes, known
part-send : IsSend part.the_field.row
part-send =
    struct_send (shape part.the_type) (search (sendable, crosses) depth 30, (search (sendable, crosses) depth 30, (search (sendable, crosses) depth 30, (search (sendable, crosses) depth 30, (search (sendable, crosses) depth 30, (search (sendable, crosses) depth 30, (store-send, (search (sendable, crosses) depth 30, (known-send, tt)))))))))

pub partition-send : IsSend Partition.the_row
partition-send = let p = part-send in search (sendable, crosses) depth 30
