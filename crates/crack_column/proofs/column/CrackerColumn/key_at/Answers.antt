use Rattle.std.proofs.Common.{◌<◌, arith}
use Rattle.crack_arena.specs.Arena.{no_handle}
use Rattle.crack_arena.specs.Memories.{nothing}
use Rattle.crack_column.proofs.PlaceLaws.{length-in, handle_in, memory_in}
use Rattle.crack_column.proofs.column.CrackerColumn.key_at.Goals as goal

pub key-requires : goal.key-requires
key-requires c =
    let ts = c.self.inside.tags.items in
    let len = c.self.inside.len in
    let whole = c.self.invariant.within in
    let within = rw (← c.self.view_is) at c.requires.within in
    let inside : c.args.place < len = omega (arith, within, length-in ts len whole) in
    let remembers = rw (← c.self.view_is) at c.requires.remembered in
    rw c.get.ensures (rw (handle_in ts len c.args.place no_handle whole inside, memory_in ts len c.args.place nothing whole inside) at (remembers.right c.args.place no_handle within))

pub returns : goal.returns
returns c =
    let ts = c.self.inside.tags.items in
    let len = c.self.inside.len in
    let whole = c.self.invariant.within in
    let within = rw (← c.self.view_is) at c.requires.within in
    let inside : c.args.place < len = omega (arith, within, length-in ts len whole) in
    rw (← c.self.view_is) (rw (handle_in ts len c.args.place no_handle whole inside, ← c.get.ensures) c.key.ensures)
