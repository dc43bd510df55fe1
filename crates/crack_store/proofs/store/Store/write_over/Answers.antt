use Rattle.std.proofs.Common.{◌≡◌, true, get_or, Some, None, refl, sym, ◌∙◌, inr, arith, length-set}
use Rattle.std.proofs.lemmas.List.{get_or_default}
use Rattle.crack_row.specs.Ranges.{IsIn}
use Rattle.crack_arena.specs.Arena.{read, set_at, place_in, no_handle}
use Rattle.crack_arena.specs.Memories.{memory_at}
use Rattle.crack_serials.specs.Serials.{handle_of}
use Rattle.crack_state.specs.Points.{pending_by, overwritten}
use Rattle.crack_state.proofs.PointLaws.{handle_by-is, reads_by, IsIntact-rewritten, live_rows-rewritten}
use Rattle.crack_store.specs.Inside.{lists_of}
use Rattle.crack_state.proofs.CellLaws.{AgreeOff-set}
use Rattle.crack_store.proofs.RememberLemmas.{Remembers-off, memory-read, memory_at-off}
use Rattle.crack_store.proofs.PointLemmas.{pending_handle, write_done, reads_not_none, read-written}
use Rattle.crack_store.proofs.store.Store.write_over.Goals as goal

-- the cell is written
written : (c : goal.After-remember) → c.set.new.self ≡ set_at c.args.row c.args.handle c.self.inside.inside.arena
written c =
    let s = lists_of c.self.inside.inside in
    let h = c.args.handle in
    let found : handle_of s.serials c.args.row.serial.0 ≡ Some h = rw (← c.self.view_is) at c.requires.found in
    write_done c.set.result (c.set.new.self ≡ set_at c.args.row h c.self.inside.inside.arena) (c.set.new.self ≡ c.self.inside.inside.arena) (read s.cells h ≡ None) c.set.ensures.after c.set.ensures.spent (reads_not_none (read s.cells h) (reads_by s c.args.row.serial.0 h found c.self.invariant.intact))

pub row_at-before-requires : goal.row_at-before-requires
row_at-before-requires c =
    let s = lists_of c.self.inside.inside in
    let found : handle_of s.serials c.args.row.serial.0 ≡ Some c.args.handle = rw (← c.self.view_is) at c.requires.found in
    reads_by s c.args.row.serial.0 c.args.handle found c.self.invariant.intact

pub remember-requires : goal.remember-requires
remember-requires c =
    let s = lists_of c.self.inside.inside in
    let found : handle_of s.serials c.args.row.serial.0 ≡ Some c.args.handle = rw (← c.self.view_is) at c.requires.found in
    let pending : pending_by s c.args.row.serial.0 ≡ Some true = rw (← c.self.view_is) at c.requires.pending in
    (pending_handle s c.args.row.serial.0 c.args.handle pending found c.self.invariant.intact).listed

pub invariant_of-self : goal.invariant_of-self
invariant_of-self c =
    let s = lists_of c.self.inside.inside in
    let h = c.args.handle in
    let row = c.args.row in
    let found : handle_of s.serials row.serial.0 ≡ Some h = rw (← c.self.view_is) at c.requires.found in
    let waits : pending_by s row.serial.0 ≡ Some true = rw (← c.self.view_is) at c.requires.pending in
    let inside : IsIn s.keys row.key.0 = rw (← c.self.view_is) at c.requires.within in
    let pending = pending_handle s row.serial.0 h waits found c.self.invariant.intact in
    let cells = (overwritten row h s).cells in
    let agree = AgreeOff-set s.cells h.slot (record { generation = h.generation; value = Some row }) in
    let stood : get_or s.pending_in (place_in s.pending_in h.slot) no_handle ≡ h = sym (pending.at.is ∙ get_or_default s.pending_in (place_in s.pending_in h.slot) h no_handle pending.at.within) in
    let known : c.of.result ≡ memory_at cells (get_or s.pending_in (place_in s.pending_in h.slot) no_handle) = c.of.ensures ∙ (rw stood (memory-read cells h row (read-written s.cells h row pending.within))) in
    record {
      intact = rw (written c, c.remember.ensures.after) (IsIntact-rewritten s h row found pending.listed inside c.self.invariant.intact);
      remembers = rw (written c) (Remembers-off h.slot s.cells cells s.column c.self.inside.inside.column.remembered agree pending.off_column c.self.invariant.remembers);
      keys_in = rw (written c) (c.remember.ensures.remembered s.cells cells (inr known) (λ x ne. memory_at-off h.slot s.cells cells x agree ne) c.self.invariant.keys_in);
      keys_out = rw (written c) (Remembers-off h.slot s.cells cells s.pending_out c.self.inside.inside.pending_out.remembered agree pending.kept c.self.invariant.keys_out);
      room = rw c.remember.ensures.after c.self.invariant.room;
      covered = rw (written c, c.remember.ensures.after) (omega (arith, c.self.invariant.covered, length-set s.cells h.slot (record { generation = h.generation; value = Some row })));
    }

pub returns-clause-after : goal.returns-clause-after
returns-clause-after c =
    let s = lists_of c.self.inside.inside in
    let found : handle_of s.serials c.args.row.serial.0 ≡ Some c.args.handle = rw (← c.self.view_is) at c.requires.found in
    rw (← c.self.view_is, handle_by-is s c.args.row.serial.0 c.args.handle found, written c, c.remember.ensures.after) refl

pub returns-clause-live : goal.returns-clause-live
returns-clause-live c =
    let s = lists_of c.self.inside.inside in
    let found : handle_of s.serials c.args.row.serial.0 ≡ Some c.args.handle = rw (← c.self.view_is) at c.requires.found in
    rw (← c.self.view_is, written c) (live_rows-rewritten s c.args.handle c.args.row found c.self.invariant.intact)
