use Rattle.std.proofs.Common.{[], arith}
use Rattle.std.proofs.lemmas.List.Sorted.{length_permutation}
use Rattle.crack_plain.specs.Plain.{by_serial}
use Rattle.crack_plain.proofs.OrderLaws.{IsPermutation-by_serial}
use Rattle.crack_state.specs.State.{IsIntact, live_rows}
use Rattle.crack_state.proofs.LayoutLaws.{cells-intact, rows-intact, pending_out-few}
use Rattle.crack_part.proofs.partition.Partition.rows.Goals as goal

pub overflow_sub-result : goal.overflow_sub-result
overflow_sub-result c =
    let s = c.self.inside.store in
    omega (arith, c.column_len-column.ensures, c.pending_out-pending_out.ensures, pending_out-few s c.self.invariant.sound.intact.owned)

pub overflow_add-result : goal.overflow_add-result
overflow_add-result c =
    let s = c.self.inside.store in
    omega (arith, c.column_len-column.ensures, c.pending_in-pending_in.ensures, cells-intact s [] c.self.invariant.sound.intact, c.self.invariant.sound.intact.few_cells)

pub returns-clause-live : goal.returns-clause-live
returns-clause-live c =
    let s = c.self.inside.store in
    let intact : IsIntact s [] = c.self.invariant.sound.intact in
    rw (← c.self.view_is) (omega (arith, c.column_len-column.ensures, c.pending_in-pending_in.ensures, c.pending_out-pending_out.ensures, rows-intact s [] intact, pending_out-few s intact.owned))

pub returns-clause-plain : goal.returns-clause-plain
returns-clause-plain c =
    let s = c.self.inside.store in
    let intact : IsIntact s [] = c.self.invariant.sound.intact in
    let same = length_permutation (live_rows s) (by_serial (live_rows s)) (IsPermutation-by_serial (live_rows s)) in
    rw (← c.self.view_is) (omega (arith, same, c.column_len-column.ensures, c.pending_in-pending_in.ensures, c.pending_out-pending_out.ensures, rows-intact s [] intact, pending_out-few s intact.owned))
