use Rattle.std.proofs.Common.{◌≡◌, ◌+◌, ◌-◌, suc, refl, ap, sym, arith}
use Rattle.std.specs.Prelude.{length}
use Rattle.crack_row.specs.declared.Row.{Row}
use Rattle.crack_store.specs.Inside.{lists_of}
use Rattle.crack_store.specs.Rooms.{HasRooms}
use Rattle.crack_store.proofs.RoomLemmas.{HasRooms-same, HasRooms-first}
use Rattle.crack_store.proofs.RunLemmas.{IsRun, IsRun-none, IsRun-may, IsRun-next}
use Rattle.crack_store.proofs.inserting.add_rows.Goals as goal
use Rattle.crack_store.proofs.inserting.add_rows.Goals.{After-row_at_index, After-rows}

pub rows-init : goal.rows-init
rows-init c = record {
  run = IsRun-none c.args.first.0 c.args.keys.now c.args.payloads.now (lists_of c.args.inside.now) c.requires.insertable;
  kept = c.requires.kept;
  room = HasRooms-same c.args.first.0 (c.args.first.0 + 0) (length c.args.keys.now) (length c.args.keys.now - 0) c.args.inside.now (omega arith) (omega arith) c.requires.room;
}

pub add_row-requires-clause-insertable : goal.add_row-requires-clause-insertable
add_row-requires-clause-insertable c =
    rw (c.row_at_index.ensures) (IsRun-may c.args.first.0 c.args.keys.now c.args.payloads.now (lists_of c.args.inside.now) c.rows.i (lists_of c.rows.inside) c.rows.invariant.run c.rows-test.true)

-- there is room for the row and those after it
left : (c : After-row_at_index) → HasRooms c.row_at_index.result.serial.0 (suc (length c.args.keys.now - (c.rows.i + 1))) c.rows.inside
left c =
    let serial : c.args.first.0 + c.rows.i ≡ c.row_at_index.result.serial.0 = sym (ap (λ (row : Row). row.serial.0) c.row_at_index.ensures) in
    HasRooms-same (c.args.first.0 + c.rows.i) c.row_at_index.result.serial.0 (length c.args.keys.now - c.rows.i) (suc (length c.args.keys.now - (c.rows.i + 1))) c.rows.inside serial (omega (arith, c.rows-test.true)) c.rows.invariant.room

pub add_row-requires-clause-room : goal.add_row-requires-clause-room
add_row-requires-clause-room c =
    HasRooms-first c.row_at_index.result.serial.0 (length c.args.keys.now - (c.rows.i + 1)) c.rows.inside (left (goal.at.add_row-requires-clause-room c).After-row_at_index)

pub rows-preserved : goal.rows-preserved
rows-preserved c =
    let is = c.row_at_index.ensures in
    let serial : suc c.row_at_index.result.serial.0 ≡ c.args.first.0 + (c.rows.i + 1) = omega (arith, ap (λ (row : Row). row.serial.0) is) in
    let count = length c.args.keys.now - (c.rows.i + 1) in
    record {
      run = IsRun-next c.args.first.0 c.args.keys.now c.args.payloads.now (lists_of c.args.inside.now) c.rows.i (lists_of c.rows.inside) (lists_of c.add_row.new.inside) c.requires.payloads c.rows-test.true c.rows.invariant.run (rw is at c.add_row.ensures.after) (rw is at c.add_row.ensures.live);
      kept = c.add_row.ensures.kept;
      room = HasRooms-same (suc c.row_at_index.result.serial.0) (c.args.first.0 + (c.rows.i + 1)) count count c.add_row.new.inside serial refl (c.add_row.ensures.room count (left (goal.at.rows-preserved c).After-row_at_index));
    }

-- all rows were added
whole : (c : After-rows) → IsRun c.args.first.0 c.args.keys.now c.args.payloads.now (lists_of c.args.inside.now) (length c.args.keys.now) (lists_of c.rows.inside)
whole c =
    let all : c.rows.i ≡ length c.args.keys.now = omega (arith, c.rows-test.false, c.rows.auto.i-end) in
    rw all at c.rows.invariant.run

pub returns-clause-after : goal.returns-clause-after
returns-clause-after c = (whole (goal.at.returns-clause-after c).After-rows).after

pub returns-clause-live : goal.returns-clause-live
returns-clause-live c = (whole (goal.at.returns-clause-live c).After-rows).live
