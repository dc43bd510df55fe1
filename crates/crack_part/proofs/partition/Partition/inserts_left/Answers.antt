use Rattle.std.proofs.Common.{arith, []}
use Rattle.crack_state.proofs.LayoutLaws.{cells-intact}
use Rattle.crack_part.proofs.partition.Partition.inserts_left.Goals as goal

pub overflow_add-cells : goal.overflow_add-cells
overflow_add-cells c =
    let sound = c.self.invariant.sound in
    let cells = cells-intact c.self.inside.store [] sound.intact in
    omega (arith, cells, sound.cells, sound.limited.cells.1, c.cells.ensures, c.free_cells.ensures)
