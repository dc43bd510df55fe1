use Rattle.std.proofs.Common.{◌≡◌, ◌++◌, [], refl, ap, ◌∙◌, arith}
use Rattle.crack_pending.specs.Pending.{Pending}
use Rattle.crack_state.specs.Steps.{SameButRoom, all_appended}
use Rattle.crack_state.proofs.AppendLaws.{IsIntact-all}
use Rattle.crack_state.proofs.LayoutLaws.{cells-intact}
use Rattle.crack_state.proofs.StepLaws.{IsIntact-room}
use Rattle.crack_store.specs.Inside.{lists_of}
use Rattle.crack_store.proofs.store.Store.append_all.Goals as goal

pub reserve-requires : goal.reserve-requires
reserve-requires c =
    let intact = c.self.invariant.intact in
    omega (arith, cells-intact (lists_of c.self.inside.inside) [] intact, intact.few_cells, c.len-count.ensures)

pub invariant_of-self-2 : goal.invariant_of-self-2
invariant_of-self-2 c =
    let p = c.self.inside.inside in
    let s = lists_of p in
    let new = record p { column = c.append_rows.new.column; pending_in = c.shrink_if_empty.new.self; tally = record p.tally { insertions = c.saturating_add-self-inside.result } } in
    let uncracked : s.marks ≡ [] = rw (← c.self.view_is) at c.requires in
    let closed : c.close_up.new.self.handles ≡ s.pending_in = ap (λ (x : Pending). x.handles) c.close_up.ensures.same in
    let column : c.append_rows.new.column.handles ≡ s.column ++ s.pending_in = rw (c.in_ok-reserve.ensures.same, closed) at c.append_rows.ensures.handles in
    let left : c.shrink_if_empty.new.self.handles ≡ [] = ap (λ (x : Pending). x.handles) c.shrink_if_empty.ensures.same ∙ c.clear.ensures.handles in
    let after : SameButRoom (all_appended s) (lists_of new) = record { same = rw (column, left, c.saturating_add-self-inside.ensures, c.len-count.ensures) refl } in
    record {
      intact = IsIntact-room (all_appended s) (lists_of new) [] after (IsIntact-all s.pending_in s refl uncracked c.self.invariant.intact);
      remembers = c.append_rows.ensures.remembered;
      keys_in = c.shrink_if_empty.ensures.remembered s.cells (rw (c.clear.ensures.handles, c.clear.ensures.keys) (record { beside = refl; right = λ k d within. absurd (omega (arith, within)) }));
      keys_out = c.self.invariant.keys_out;
      room = c.shrink_if_empty.ensures.sure;
      covered = rw (c.shrink_if_empty.ensures.same, c.clear.ensures.covered, c.close_up.ensures.same) c.self.invariant.covered;
    }
