use Rattle.std.proofs.Common.{◌≡◌, false, [], Some, refl, ap, ◌∙◌, inr, arith}
use Rattle.crack_arena.specs.Memories.{memory_at}
use Rattle.crack_pending.specs.Pending.{Pending}
use Rattle.crack_serials.specs.Serials.{handle_of}
use Rattle.crack_state.specs.Points.{pending_by, MayFree, doomed_too}
use Rattle.crack_state.specs.Steps.{SameButRoom}
use Rattle.crack_state.proofs.LayoutLaws.{cells-intact, pending_out-few}
use Rattle.crack_state.proofs.PointLaws.{stands1, reads_by, IsIntact-doomed, live_rows-doomed}
use Rattle.crack_state.proofs.StepLaws.{IsIntact-room}
use Rattle.crack_store.specs.Inside.{lists_of}
use Rattle.crack_store.proofs.RememberLemmas.{memory-read}
use Rattle.crack_store.proofs.PointLemmas.{column_handle}
use Rattle.crack_store.proofs.store.Store.doom_at.Goals as goal

pub reserve-requires : goal.reserve-requires
reserve-requires c =
    let s = lists_of c.self.inside.inside in
    let intact = c.self.invariant.intact in
    omega (arith, cells-intact s [] intact, pending_out-few s intact.owned, intact.few_cells)

pub forget_at-requires : goal.forget_at-requires
forget_at-requires c = rw (← c.self.view_is) at c.requires.entry

pub row_at-row-requires : goal.row_at-row-requires
row_at-row-requires c =
    let s = lists_of c.self.inside.inside in
    let lead = c.args.lead in
    let found : handle_of s.serials lead.serial.0 ≡ Some lead.handle = rw (← c.self.view_is) at c.requires.found in
    reads_by s lead.serial.0 lead.handle found c.self.invariant.intact

pub push_remembered-requires-clause-room : goal.push_remembered-requires-clause-room
push_remembered-requires-clause-room c = omega (arith, c.in_ok-reserve.ensures.room, ap (λ (p : Pending). p.room) c.in_ok-make_places.ensures.same)

pub push_remembered-requires-clause-covered : goal.push_remembered-requires-clause-covered
push_remembered-requires-clause-covered c =
    let s = lists_of c.self.inside.inside in
    let lead = c.args.lead in
    let found : handle_of s.serials lead.serial.0 ≡ Some lead.handle = rw (← c.self.view_is) at c.requires.found in
    omega (arith, (stands1 s lead.serial.0 lead.handle found c.self.invariant.intact).within, c.in_ok-make_places.ensures.covered, c.cells.ensures)

pub push_remembered-requires-clause-absent : goal.push_remembered-requires-clause-absent
push_remembered-requires-clause-absent c =
    let s = lists_of c.self.inside.inside in
    let lead = c.args.lead in
    let found : handle_of s.serials lead.serial.0 ≡ Some lead.handle = rw (← c.self.view_is) at c.requires.found in
    rw (c.in_ok-make_places.ensures.same, c.in_ok-reserve.ensures.same) (c.self.invariant.intact.keyed.leads lead.serial.0 lead.handle found).3

pub invariant_of-self-2 : goal.invariant_of-self-2
invariant_of-self-2 c =
    let s = lists_of c.self.inside.inside in
    let lead = c.args.lead in
    let h = lead.handle in
    let entries = c.forget_at.new.self.entries in
    let new = record c.self.inside.inside { pending_out = c.push_remembered.new.self; serials = c.forget_at.new.self } in
    let found : handle_of s.serials lead.serial.0 ≡ Some h = rw (← c.self.view_is) at c.requires.found in
    let column : pending_by s lead.serial.0 ≡ Some false = rw (← c.self.view_is) at c.requires.column in
    let few : MayFree s = rw (← c.self.view_is) at c.requires.few in
    let after : SameButRoom (record (doomed_too h s) { serials = entries }) (lists_of new) = record { same = rw (c.push_remembered.ensures.after, c.in_ok-make_places.ensures.same, c.in_ok-reserve.ensures.same) refl } in
    let known : c.of.result ≡ memory_at s.cells h = c.of.ensures ∙ memory-read s.cells h c.row_at-row.result c.row_at-row.ensures in
    record {
      intact = IsIntact-room (record (doomed_too h s) { serials = entries }) (lists_of new) [] after (IsIntact-doomed s lead.serial.0 h entries found (column_handle s lead.serial.0 h column found) c.forget_at.ensures.updates few c.self.invariant.intact);
      remembers = c.self.invariant.remembers;
      keys_in = c.self.invariant.keys_in;
      keys_out = c.push_remembered.ensures.remembered s.cells (inr known) (c.in_ok-make_places.ensures.remembered s.cells (c.in_ok-reserve.ensures.remembered s.cells c.self.invariant.keys_out));
      room = c.self.invariant.room;
      covered = c.self.invariant.covered;
    }

pub returns-clause-live : goal.returns-clause-live
returns-clause-live c =
    let s = lists_of c.self.inside.inside in
    let lead = c.args.lead in
    let found : handle_of s.serials lead.serial.0 ≡ Some lead.handle = rw (← c.self.view_is) at c.requires.found in
    rw (← c.self.view_is, c.push_remembered.ensures.after, c.in_ok-make_places.ensures.same, c.in_ok-reserve.ensures.same) (live_rows-doomed s lead.serial.0 lead.handle c.row_at-row.result found c.row_at-row.ensures c.self.invariant.intact)
