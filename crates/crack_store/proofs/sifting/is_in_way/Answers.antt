use Rattle.std.proofs.Common.{◌≤◌, [], length, arith}
use Rattle.crack_state.proofs.LayoutLaws.{cells-intact}
use Rattle.crack_state.proofs.PieceLaws.{piece_start-le, piece_end-le}
use Rattle.crack_store.specs.Inside.{lists_of}
use Rattle.crack_store.proofs.sifting.is_in_way.Goals as goal

pub overflow_add-from : goal.overflow_add-from
overflow_add-from c =
    let s = lists_of c.args.inside.now in
    let intact = c.requires.intact.intact in
    let from : c.piece_of-from.result.from ≤ length s.column = rw c.piece_of-from.ensures.value (piece_start-le s c.key_of-key.result.0 intact.rising intact.obeyed) in
    record { fits = omega (arith, from, c.requires.few, cells-intact s [] intact, intact.few_cells) }

pub place_between-requires-clause-within : goal.place_between-requires-clause-within
place_between-requires-clause-within c =
    let s = lists_of c.args.inside.now in
    let intact = c.requires.intact.intact in
    let to : c.piece_of-from.result.to ≤ length s.column = rw (c.piece_of-from.ensures.value, c.len.ensures.value) (piece_end-le s c.key_of-key.result.0 intact.rising intact.obeyed) in
    omega (arith, c.min-met.ensures, to)
