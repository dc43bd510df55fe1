use Rattle.std.specs.Prelude.{◌+◌, ◌-◌, [], length}
use Rattle.crack_store.specs.Inside.{lists_of}
use Rattle.crack_store.specs.Keeps.{KeepsIntact}
use Rattle.crack_store.specs.Rooms.{HasRooms}
use Rattle.crack_store.proofs.RunLemmas.{IsRun}
use Rattle.crack_store.proofs.inserting.add_rows.Given as goal

-- the rows before this index were added, and there is room for the others
abbrev pub invariant-rows : goal.invariant-rows
invariant-rows l = record {
  run : IsRun l.first.0 l.keys l.payloads (lists_of l.initial.inside) l.i (lists_of l.inside);
  kept : KeepsIntact l.inside [];
  room : HasRooms (l.first.0 + l.i) (length l.keys - l.i) l.inside;
}
