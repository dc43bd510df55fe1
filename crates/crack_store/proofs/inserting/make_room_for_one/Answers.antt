use Rattle.std.proofs.Common.{[], arith}
use Rattle.crack_state.proofs.LayoutLaws.{cells-intact}
use Rattle.crack_store.specs.Inside.{lists_of}
use Rattle.crack_store.proofs.inserting.make_room_for_one.Goals as goal

pub reserve-requires : goal.reserve-requires
reserve-requires c =
    omega (arith, cells-intact (lists_of c.args.inside.now) [] c.requires.kept.intact, c.requires.kept.intact.few_cells)
