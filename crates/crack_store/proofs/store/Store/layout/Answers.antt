use Rattle.std.proofs.Common.{◌≡◌, [], length, refl, ap, arith}
use Rattle.std.specs.List.{sum_by}
use Rattle.crack_row.specs.Layouts.{AreJoined}
use Rattle.crack_row.specs.declared.layout.PieceSize.{PieceSize}
use Rattle.crack_state.specs.State.{State, IsIntact}
use Rattle.crack_state.proofs.LayoutLaws.{cells-intact, rows-intact, pending_out-few, IsLayout-intact}
use Rattle.crack_store.specs.Inside.{lists_of}
use Rattle.crack_store.proofs.EdgeLemmas.{positions_within}
use Rattle.crack_store.proofs.store.Store.layout.Goals as goal

pub overflow_sub-result : goal.overflow_sub-result
overflow_sub-result c =
    let intact : IsIntact c.args.self.now [] = rw c.self.view_is at c.self.invariant.intact in
    omega (arith, c.column_len-column.ensures, c.pending_out-pending_out.ensures, pending_out-few c.args.self.now intact.owned)

pub overflow_add-result : goal.overflow_add-result
overflow_add-result c =
    let intact : IsIntact c.args.self.now [] = rw c.self.view_is at c.self.invariant.intact in
    omega (arith, c.column_len-column.ensures, c.pending_in-pending_in.ensures, cells-intact c.args.self.now [] intact, intact.few_cells)

pub returns-clause-equations : goal.returns-clause-equations
returns-clause-equations c =
    let s = lists_of c.self.inside.inside in
    let now = c.args.self.now in
    let intact : IsIntact now [] = rw c.self.view_is at c.self.invariant.intact in
    let again : c.column_len.result ≡ length s.column = rw (← c.self.view_is) at c.column_len.ensures in
    let sizes : sum_by (λ (p : PieceSize). p.size) c.from_vec.result ≡ length now.column = rw (c.column_len.ensures, ← c.from_vec.ensures) at (c.in_ok-pieces.ensures.sizes (rw again (positions_within s [] c.self.invariant.intact))) in
    let joined : AreJoined now.keys.low now.keys.high c.from_vec.result = rw (ap (λ (t : State). t.keys) c.self.view_is, ← c.from_vec.ensures) at (c.in_ok-pieces.ensures.joined (λ k d h. let inside = c.self.invariant.intact.inside k d h in (omega (arith, inside.0), omega (arith, inside.1)))) in
    IsLayout-intact now _ c.column_len-column.ensures c.pending_in-pending_in.ensures c.pending_out-pending_out.ensures c.cells.ensures c.free_cells.ensures refl sizes joined intact

pub returns-clause-live : goal.returns-clause-live
returns-clause-live c =
    let now = c.args.self.now in
    let intact : IsIntact now [] = rw c.self.view_is at c.self.invariant.intact in
    omega (arith, c.column_len-column.ensures, c.pending_in-pending_in.ensures, c.pending_out-pending_out.ensures, rows-intact now [] intact, pending_out-few now intact.owned)
