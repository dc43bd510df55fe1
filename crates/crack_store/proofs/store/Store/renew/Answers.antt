use Rattle.std.proofs.Common.{◌≡◌, ◌≢◌, ◌≤◌, false, [], length, Some, refl, sym, ap, ◌∙◌, inr, arith}
use Rattle.crack_row.specs.Ranges.{IsIn}
use Rattle.crack_arena.specs.Arena.{cells_with, read}
use Rattle.crack_arena.specs.Memories.{memory_at}
use Rattle.crack_pending.specs.Pending.{Pending}
use Rattle.crack_serials.specs.Serials.{handle_of, Maps}
use Rattle.crack_state.specs.Steps.{SameButRoom, next_handle}
use Rattle.crack_state.specs.Points.{pending_by, IsRenewable, renewed}
use Rattle.crack_state.proofs.LayoutLaws.{cells-intact, pending_out-few}
use Rattle.crack_state.proofs.StepLaws.{IsIntact-room}
use Rattle.crack_state.proofs.PointLaws.{stands1, reads_by, IsIntact-renewed, live_rows-renewed}
use Rattle.crack_store.specs.Inside.{lists_of}
use Rattle.crack_store.proofs.InsertLemmas.{is_covered, all_covered, with_new_cell}
use Rattle.crack_store.proofs.RememberLemmas.{Remembers-row_inserted, Remembers-off, Added, added, memory_of, memory-read, memory_at-off}
use Rattle.crack_store.proofs.PointLemmas.{column_handle}
use Rattle.crack_store.proofs.store.Store.renew.Goals as goal

pub reserve-requires : goal.reserve-requires
reserve-requires c =
    let s = lists_of c.self.inside.inside in
    let intact = c.self.invariant.intact in
    omega (arith, cells-intact s [] intact, pending_out-few s intact.owned, intact.few_cells)

pub reserve-requires-2 : goal.reserve-requires-2
reserve-requires-2 c =
    let intact = c.self.invariant.intact in
    omega (arith, cells-intact (lists_of c.self.inside.inside) [] intact, intact.few_cells)

pub row_at-before-requires : goal.row_at-before-requires
row_at-before-requires c =
    let s = lists_of c.self.inside.inside in
    let cells_is : c.reserve-3.new.self.cells ≡ s.cells = ap (λ a. a.cells) c.in_ok-reserve-3.ensures.same in
    let found : handle_of s.serials c.args.row.serial.0 ≡ Some c.args.lead.handle = rw (← c.self.view_is) at c.requires.found in
    rw cells_is (reads_by s c.args.row.serial.0 c.args.lead.handle found c.self.invariant.intact)

pub lead_to-requires : goal.lead_to-requires
lead_to-requires c = rw (← c.self.view_is) at c.requires.entry

pub push_remembered-requires-clause-room : goal.push_remembered-requires-clause-room
push_remembered-requires-clause-room c = omega (arith, c.in_ok-reserve.ensures.room, ap (λ (p : Pending). p.room) c.in_ok-make_places.ensures.same)

pub push_remembered-requires-clause-covered : goal.push_remembered-requires-clause-covered
push_remembered-requires-clause-covered c =
    let s = lists_of c.self.inside.inside in
    let cells_is : c.reserve-3.new.self.cells ≡ s.cells = ap (λ a. a.cells) c.in_ok-reserve-3.ensures.same in
    let free_is : c.reserve-3.new.self.free ≡ s.free = ap (λ a. a.free) c.in_ok-reserve-3.ensures.same in
    let next : c.put_reserved-handle.result ≡ next_handle s = rw (cells_is, free_is) at c.put_reserved-handle.ensures.handle in
    let covered : length s.cells ≤ c.make_places.new.self.covered = omega (arith, c.in_ok-make_places.ensures.covered, rw cells_is at c.cells.ensures) in
    let found : handle_of s.serials c.args.row.serial.0 ≡ Some c.args.lead.handle = rw (← c.self.view_is) at c.requires.found in
    omega (arith, (stands1 s c.args.row.serial.0 c.args.lead.handle found c.self.invariant.intact).within, covered)

pub push_remembered-requires-clause-absent : goal.push_remembered-requires-clause-absent
push_remembered-requires-clause-absent c =
    let s = lists_of c.self.inside.inside in
    let found : handle_of s.serials c.args.row.serial.0 ≡ Some c.args.lead.handle = rw (← c.self.view_is) at c.requires.found in
    rw (c.in_ok-make_places.ensures.same, c.in_ok-reserve.ensures.same) (c.self.invariant.intact.keyed.leads c.args.row.serial.0 c.args.lead.handle found).3

pub push_remembered-requires-2-clause-room : goal.push_remembered-requires-2-clause-room
push_remembered-requires-2-clause-room c = omega (arith, c.in_ok-reserve-2.ensures.room, ap (λ (p : Pending). p.room) c.in_ok-make_places-3.ensures.same)

pub push_remembered-requires-2-clause-covered : goal.push_remembered-requires-2-clause-covered
push_remembered-requires-2-clause-covered c =
    let s = lists_of c.self.inside.inside in
    let cells_is : c.reserve-3.new.self.cells ≡ s.cells = ap (λ a. a.cells) c.in_ok-reserve-3.ensures.same in
    let free_is : c.reserve-3.new.self.free ≡ s.free = ap (λ a. a.free) c.in_ok-reserve-3.ensures.same in
    let next : c.put_reserved-handle.result ≡ next_handle s = rw (cells_is, free_is) at c.put_reserved-handle.ensures.handle in
    is_covered c.args.row s c.put_reserved-handle.result c.make_places-3.new.self.covered next (with_new_cell s c.cells-3.result c.free_cells.result c.make_places-3.new.self.covered (rw cells_is at c.cells-3.ensures) (rw free_is at c.free_cells.ensures) c.in_ok-make_places-3.ensures.covered) c.self.invariant.intact

pub push_remembered-requires-2-clause-absent : goal.push_remembered-requires-2-clause-absent
push_remembered-requires-2-clause-absent c =
    let s = lists_of c.self.inside.inside in
    let cells_is : c.reserve-3.new.self.cells ≡ s.cells = ap (λ a. a.cells) c.in_ok-reserve-3.ensures.same in
    let free_is : c.reserve-3.new.self.free ≡ s.free = ap (λ a. a.free) c.in_ok-reserve-3.ensures.same in
    let next : c.put_reserved-handle.result ≡ next_handle s = rw (cells_is, free_is) at c.put_reserved-handle.ensures.handle in
    rw (c.in_ok-make_places-3.ensures.same, c.in_ok-reserve-2.ensures.same) (added c.args.row s c.self.invariant.intact c.put_reserved-handle.result next).off_in

-- the row gets the next handle
handle : (c : goal.After-self-1) → c.put_reserved-handle.result ≡ next_handle (lists_of c.self.inside.inside)
handle c =
    let s = lists_of c.self.inside.inside in
    let cells_is : c.reserve-3.new.self.cells ≡ s.cells = ap (λ a. a.cells) c.in_ok-reserve-3.ensures.same in
    let free_is : c.reserve-3.new.self.free ≡ s.free = ap (λ a. a.free) c.in_ok-reserve-3.ensures.same in
    let next : c.put_reserved-handle.result ≡ next_handle s = rw (cells_is, free_is) at c.put_reserved-handle.ensures.handle in
    next

-- the store is the renewed one, but for room
after : (c : goal.After-self-1) → SameButRoom (record (renewed c.args.row c.args.lead.handle (lists_of c.self.inside.inside)) { serials = c.lead_to.new.self.entries }) (lists_of (record c.self.inside.inside { arena = c.put_reserved-handle.new.self; pending_in = c.push_remembered-2.new.self; pending_out = c.push_remembered.new.self; in_room = 0; serials = c.lead_to.new.self }))
after c =
    let s = lists_of c.self.inside.inside in
    let cells_is : c.reserve-3.new.self.cells ≡ s.cells = ap (λ a. a.cells) c.in_ok-reserve-3.ensures.same in
    let free_is : c.reserve-3.new.self.free ≡ s.free = ap (λ a. a.free) c.in_ok-reserve-3.ensures.same in
    let next : c.put_reserved-handle.result ≡ next_handle s = rw (cells_is, free_is) at c.put_reserved-handle.ensures.handle in
    record {
      same = rw (c.put_reserved-handle.ensures.after, cells_is, free_is, c.push_remembered.ensures.after, c.in_ok-make_places.ensures.same, c.in_ok-reserve.ensures.same, c.push_remembered-2.ensures.after, c.in_ok-make_places-3.ensures.same, c.in_ok-reserve-2.ensures.same, next) refl;
    }

-- its cells are those with the row
cells_after : (c : goal.After-self-1) → c.put_reserved-handle.new.self.cells ≡ cells_with c.args.row c.self.inside.inside.arena.cells c.self.inside.inside.arena.free
cells_after c = ap (λ t. t.cells) (after c).same

pub invariant_of-self-2 : goal.invariant_of-self-2
invariant_of-self-2 c =
    let s = lists_of c.self.inside.inside in
    let row = c.args.row in
    let h = c.args.lead.handle in
    let n = c.put_reserved-handle.result in
    let found : handle_of s.serials row.serial.0 ≡ Some h = rw (← c.self.view_is) at c.requires.found in
    let entries = c.lead_to.new.self.entries in
    let new = record c.self.inside.inside { arena = c.put_reserved-handle.new.self; pending_in = c.push_remembered-2.new.self; pending_out = c.push_remembered.new.self; in_room = 0; serials = c.lead_to.new.self } in
    let column : pending_by s row.serial.0 ≡ Some false = rw (← c.self.view_is) at c.requires.column in
    let inside : IsIn s.keys row.key.0 = rw (← c.self.view_is) at c.requires.within in
    let may : IsRenewable s = rw (← c.self.view_is) at c.requires.few in
    let maps : Maps row.serial.0 (Some (next_handle s)) s.serials entries = rw (c.requires.serial, handle c) at c.lead_to.ensures.updates in
    let cells = cells_with row s.cells s.free in
    let plus : Added row s n = added row s c.self.invariant.intact n (handle c) in
    let kept_in = c.self.inside.inside.pending_in in
    let kept_out = c.self.inside.inside.pending_out in
    let cells_is : c.reserve-3.new.self.cells ≡ s.cells = ap (λ a. a.cells) c.in_ok-reserve-3.ensures.same in
    let reads : read s.cells h ≡ Some c.row_at-before.result = rw cells_is at c.row_at-before.ensures in
    let there = stands1 s row.serial.0 h found c.self.invariant.intact in
    let apart : h.slot ≢ n.slot = λ e. absurd (omega (arith, rw e at there.once, plus.off_column, plus.off_in)) in
    let known : memory_of c.row_at-before.result ≡ memory_at cells h = memory-read s.cells h c.row_at-before.result reads ∙ sym (memory_at-off n.slot s.cells cells h plus.agree apart) in
    record {
      intact = IsIntact-room (record (renewed row h s) { serials = entries }) (lists_of new) [] (after c) (IsIntact-renewed s h row entries found (column_handle s row.serial.0 h column found) maps inside may c.self.invariant.intact);
      remembers = rw (cells_after c) (Remembers-row_inserted row s c.self.inside.inside.column.remembered c.self.invariant.intact c.self.invariant.remembers);
      keys_in = rw (cells_after c) (c.push_remembered-2.ensures.remembered cells (inr (c.of-2.ensures ∙ plus.memory)) (c.in_ok-make_places-3.ensures.remembered cells (c.in_ok-reserve-2.ensures.remembered cells (Remembers-off n.slot s.cells cells kept_in.handles kept_in.remembered plus.agree plus.off_in c.self.invariant.keys_in))));
      keys_out = rw (cells_after c) (c.push_remembered.ensures.remembered cells (inr (c.of.ensures ∙ known)) (c.in_ok-make_places.ensures.remembered cells (c.in_ok-reserve.ensures.remembered cells (Remembers-off n.slot s.cells cells kept_out.handles kept_out.remembered plus.agree plus.off_out c.self.invariant.keys_out))));
      room = omega arith;
      covered = rw (cells_after c, c.push_remembered-2.ensures.after) (all_covered row s c.make_places-3.new.self.covered (with_new_cell s c.cells-3.result c.free_cells.result c.make_places-3.new.self.covered (rw (ap (λ a. a.cells) c.in_ok-reserve-3.ensures.same) at c.cells-3.ensures) (rw (ap (λ a. a.free) c.in_ok-reserve-3.ensures.same) at c.free_cells.ensures) c.in_ok-make_places-3.ensures.covered));
    }

pub returns-clause-live : goal.returns-clause-live
returns-clause-live c =
    let s = lists_of c.self.inside.inside in
    let row = c.args.row in
    let h = c.args.lead.handle in
    let found : handle_of s.serials row.serial.0 ≡ Some h = rw (← c.self.view_is) at c.requires.found in
    let column : pending_by s row.serial.0 ≡ Some false = rw (← c.self.view_is) at c.requires.column in
    let may : IsRenewable s = rw (← c.self.view_is) at c.requires.few in
    rw (← c.self.view_is, cells_after c, c.push_remembered.ensures.after, c.in_ok-make_places.ensures.same, c.in_ok-reserve.ensures.same) (live_rows-renewed s h row found (column_handle s row.serial.0 h column found) may.few c.self.invariant.intact)
