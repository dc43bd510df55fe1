use Rattle.std.proofs.Common.{length, drop, ap}
use Rattle.std.proofs.lemmas.List.{take-map, drop-map, length-map}
use Rattle.crack_arena.specs.Links.{cell_of, cells_of}
use Rattle.crack_arena.proofs.arena.Arena.cells_from.Goals as goal

pub returns-clause-cells : goal.returns-clause-cells
returns-clause-cells g c =
    let stored = c.self.inside.cells.items in
    let part = c.side_by_side.result.now in
    let long = length-map part cell_of in
    rw (c.of.ensures, ← c.self.view_is, long, drop-map cell_of c.args.slot stored, take-map cell_of (length part) (drop c.args.slot stored)) (ap cells_of c.side_by_side.ensures.cells)
