use Rattle.std.proofs.Common.{◌∷◌, [], arith}
use Rattle.crack_arena.proofs.Times.{times-le-length}
use Rattle.crack_arena.specs.Rows.{unknown}
use Rattle.crack_column.proofs.PlaceLaws.{unread-le}
use Rattle.crack_column.proofs.column.CrackerColumn.hold.Goals as goal

pub overflow_add-result : goal.overflow_add-result
overflow_add-result c =
    let column = c.tags.inside in
    omega (arith, unread-le column.tags.items column.len c.tags.invariant.within, c.tags.invariant.counted, c.tags.invariant.within, c.tags.invariant.few, c.unread.ensures, times-le-length unknown (c.get-hand.result.key ∷ []))
