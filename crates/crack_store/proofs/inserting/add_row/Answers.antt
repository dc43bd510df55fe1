use Rattle.std.proofs.Common.{◌≡◌, [], refl, ap, ◌∙◌, inr, arith}
use Rattle.crack_serials.proofs.Laws.{room_for-first, HasRoom-next}
use Rattle.crack_arena.specs.Arena.{cells_with}
use Rattle.crack_state.specs.Steps.{row_inserted}
use Rattle.crack_state.proofs.StepLaws.{IsIntact-room}
use Rattle.crack_state.proofs.InsertLaws.{IsIntact-row_inserted, live_rows-row_inserted}
use Rattle.crack_store.specs.Inside.{lists_of}
use Rattle.crack_store.proofs.InsertLemmas.{is_covered, all_covered, covered-next}
use Rattle.crack_store.proofs.RememberLemmas.{Remembers-row_inserted, Remembers-off, added}
use Rattle.crack_store.proofs.inserting.add_row.Goals as goal

pub insert_reserved-requires : goal.insert_reserved-requires
insert_reserved-requires c = room_for-first c.args.inside.now.serials c.args.row.serial.0 0 c.requires.room.serials

pub push_remembered-requires-clause-covered : goal.push_remembered-requires-clause-covered
push_remembered-requires-clause-covered c =
    is_covered c.args.row (lists_of c.args.inside.now) c.put_reserved-handle.result c.args.inside.now.pending_in.covered c.put_reserved-handle.ensures.handle c.requires.room.places c.requires.kept.intact

pub push_remembered-requires-clause-absent : goal.push_remembered-requires-clause-absent
push_remembered-requires-clause-absent c =
    (added c.args.row (lists_of c.args.inside.now) c.requires.kept.intact c.put_reserved-handle.result c.put_reserved-handle.ensures.handle).off_in

-- the store is the inserted one, but for room
pub returns-clause-after : goal.returns-clause-after
returns-clause-after c =
    let s = lists_of c.args.inside.now in
    let entries = c.insert_reserved.ensures.entries c.requires.insertable.fresh in
    record { same = rw (c.put_reserved-handle.ensures.after, c.push_remembered.ensures.after, entries, c.put_reserved-handle.ensures.handle) refl }

pub returns-clause-kept : goal.returns-clause-kept
returns-clause-kept c =
    let s = lists_of c.args.inside.now in
    let row = c.args.row in
    let h = c.put_reserved-handle.result in
    let cells = cells_with row s.cells s.free in
    let after = returns-clause-after c in
    let cells_after : c.put_reserved-handle.new.self.cells ≡ cells = ap (λ a. a.cells) c.put_reserved-handle.ensures.after in
    let plus = added row s c.requires.kept.intact h c.put_reserved-handle.ensures.handle in
    record {
      intact = IsIntact-room (row_inserted row s) _ [] after (IsIntact-row_inserted row s c.requires.insertable c.requires.kept.intact);
      remembers = rw cells_after (Remembers-row_inserted row s c.args.inside.now.column.remembered c.requires.kept.intact c.requires.kept.remembers);
      keys_in = rw cells_after (c.push_remembered.ensures.remembered cells (inr (c.of.ensures ∙ plus.memory)) (Remembers-off h.slot s.cells cells s.pending_in c.args.inside.now.pending_in.remembered plus.agree plus.off_in c.requires.kept.keys_in));
      keys_out = rw cells_after (Remembers-off h.slot s.cells cells s.pending_out c.args.inside.now.pending_out.remembered plus.agree plus.off_out c.requires.kept.keys_out);
      room = omega arith;
      covered = rw (cells_after, c.push_remembered.ensures.after) (all_covered row s c.args.inside.now.pending_in.covered c.requires.room.places);
    }

pub returns-clause-live : goal.returns-clause-live
returns-clause-live c =
    let cells_after = ap (λ a. a.cells) c.put_reserved-handle.ensures.after in
    rw cells_after (live_rows-row_inserted c.args.row (lists_of c.args.inside.now) c.requires.kept.intact)

pub returns-clause-room : goal.returns-clause-room
returns-clause-room c = λ count room.
    let p = c.args.inside.now in
    record {
      pending = rw c.push_remembered.ensures.after (omega (arith, room.pending));
      cells = rw c.put_reserved-handle.ensures.after (omega (arith, room.cells));
      serials = HasRoom-next p.serials c.insert_reserved.new.self c.args.row.serial.0 count c.insert_reserved.ensures.room room.serials;
      places = rw (c.put_reserved-handle.ensures.after, c.push_remembered.ensures.after) (covered-next c.args.row p.arena.cells p.arena.free count p.pending_in.covered room.places);
    }
