use Rattle.std.proofs.Common.{◌<◌, ◌^◌, ◌-◌, ◌/◌, arith}
use Rattle.crack_index.proofs.MarkLaws.{All-added}
use Rattle.crack_store_tests.proofs.sorted_index.add_rising.Goals as goal

pub returns : goal.returns
returns g c = rw (c.add.ensures.marks, c.reserve-room.ensures.marks) (All-added (λ m. m.position < 2 ^ 64 - 1) (record { bound = c.args.bound; position = c.number.result / 4 }) c.args.index.now.marks (omega arith) c.requires)

pub add-requires-clause-order : goal.add-requires-clause-order
add-requires-clause-order g c =
    let fits = rw c.key.ensures at (c.piece_of-piece.ensures.fits (c.number.result / 4)) in
    fits (omega arith) (omega arith)
