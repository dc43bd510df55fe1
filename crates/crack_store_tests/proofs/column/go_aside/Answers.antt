use Rattle.std.proofs.Common.{◌<◌, length, arith}
use Rattle.crack_arena.specs.Arena.{no_handle}
use Rattle.crack_arena.specs.Memories.{Agrees}
use Rattle.crack_column.specs.Column.{first_aside}
use Rattle.crack_store_tests.proofs.column.go_aside.Goals as goal

pub sums-requires : goal.sums-requires
sums-requires g c =
    let cells = c.args.arena.now.cells in
    record { remembered = c.exchange.ensures.remembered cells c.set_aside.ensures.remembered c.set_aside.ensures.known }

-- the row that is set aside was at the first place, where the column remembers its row correctly
pub sums-requires-2 : goal.sums-requires-2
sums-requires-2 g c =
    let cells = c.args.arena.now.cells in
    let exchanged = c.exchange.ensures.remembered cells c.set_aside.ensures.remembered c.set_aside.ensures.known in
    let some : 0 < length c.set_aside.new.column.handles = omega (arith, c.len-len.ensures.value) in
    let comes_aside : Agrees cells (first_aside c.exchange.new.self).handle (first_aside c.exchange.new.self).memory = rw c.exchange.ensures.after (c.set_aside.ensures.remembered.right 0 no_handle some) in
    record { remembered = c.append_aside.ensures.remembered cells exchanged comes_aside }
