use Rattle.std.proofs.Common.{◌≡◌, ◌+◌, true, [], Some, None, arith, refl, length-set}
use Rattle.crack_row.specs.declared.Row.{Row}
use Rattle.crack_arena.specs.Arena.{Cell}
use Rattle.crack_serials.specs.Serials.{handle_of}
use Rattle.crack_state.specs.Points.{pending_by, MayFree, struck}
use Rattle.crack_state.specs.Steps.{SameButRoom}
use Rattle.crack_state.proofs.PointLaws.{reads_by, IsIntact-struck, live_rows-struck}
use Rattle.crack_state.proofs.StepLaws.{IsIntact-room}
use Rattle.crack_store.specs.Inside.{lists_of}
use Rattle.crack_state.proofs.CellLaws.{AgreeOff-set}
use Rattle.crack_store.proofs.RememberLemmas.{Remembers-off}
use Rattle.crack_store.proofs.PointLemmas.{pending_handle}
use Rattle.crack_store.proofs.store.Store.cancel_at.Goals as goal

pub strike-requires : goal.strike-requires
strike-requires c =
    let s = lists_of c.self.inside.inside in
    let lead = c.args.lead in
    let found : handle_of s.serials lead.serial.0 ≡ Some lead.handle = rw (← c.self.view_is) at c.requires.found in
    let waits : pending_by s lead.serial.0 ≡ Some true = rw (← c.self.view_is) at c.requires.pending in
    (pending_handle s lead.serial.0 lead.handle waits found c.self.invariant.intact).listed

pub forget_at-requires : goal.forget_at-requires
forget_at-requires c = rw (← c.self.view_is) at c.requires.entry

pub free-requires-clause-reads : goal.free-requires-clause-reads
free-requires-clause-reads c =
    let s = lists_of c.self.inside.inside in
    let lead = c.args.lead in
    let found : handle_of s.serials lead.serial.0 ≡ Some lead.handle = rw (← c.self.view_is) at c.requires.found in
    reads_by s lead.serial.0 lead.handle found c.self.invariant.intact

pub invariant_of-self : goal.invariant_of-self
invariant_of-self c =
    let s = lists_of c.self.inside.inside in
    let lead = c.args.lead in
    let h = lead.handle in
    let entries = c.forget_at.new.self.entries in
    let new = record c.self.inside.inside { arena = c.free.new.arena; pending_in = c.strike.new.self; serials = c.forget_at.new.self } in
    let found : handle_of s.serials lead.serial.0 ≡ Some h = rw (← c.self.view_is) at c.requires.found in
    let waits : pending_by s lead.serial.0 ≡ Some true = rw (← c.self.view_is) at c.requires.pending in
    let few : MayFree s = rw (← c.self.view_is) at c.requires.few in
    let after : SameButRoom (record (struck h s) { serials = entries }) (lists_of new) = record { same = rw (c.free.ensures.after, c.strike.ensures.handles) refl } in
    let pending = pending_handle s lead.serial.0 h waits found c.self.invariant.intact in
    let freed : Cell Row = record { generation = h.generation + 1; value = None } in
    let agree = AgreeOff-set s.cells h.slot freed in
    record {
      intact = IsIntact-room (record (struck h s) { serials = entries }) (lists_of new) [] after (IsIntact-struck s lead.serial.0 h entries found pending.listed c.forget_at.ensures.updates few c.self.invariant.intact);
      remembers = rw c.free.ensures.after (Remembers-off h.slot s.cells (struck h s).cells s.column c.self.inside.inside.column.remembered agree pending.off_column c.self.invariant.remembers);
      keys_in = rw c.free.ensures.after (Remembers-off h.slot s.cells (struck h s).cells c.strike.new.self.handles c.strike.new.self.remembered agree (rw c.strike.ensures.handles pending.left) (c.strike.ensures.remembered s.cells c.self.invariant.keys_in));
      keys_out = rw c.free.ensures.after (Remembers-off h.slot s.cells (struck h s).cells s.pending_out c.self.inside.inside.pending_out.remembered agree pending.kept c.self.invariant.keys_out);
      room = omega (arith, c.self.invariant.room, c.strike.ensures.room);
      covered = rw (c.free.ensures.after, c.strike.ensures.covered) (omega (arith, c.self.invariant.covered, length-set s.cells h.slot freed));
    }

pub returns-clause-live : goal.returns-clause-live
returns-clause-live c =
    let s = lists_of c.self.inside.inside in
    let lead = c.args.lead in
    let found : handle_of s.serials lead.serial.0 ≡ Some lead.handle = rw (← c.self.view_is) at c.requires.found in
    rw (← c.self.view_is, c.free.ensures.after) (live_rows-struck s lead.serial.0 lead.handle c.free.result found c.free.ensures.row c.self.invariant.intact)
