use Rattle.std.proofs.Common.{◌≡◌, ◌-◌, length, map, take}
use Rattle.std.proofs.Math.Seq.{paste}
use Rattle.crack_store.specs.Openings.{arrival_handle, KeepsPut}
use Rattle.crack_store.proofs.opening.put_arrivals.Given as goal

abbrev pub invariant-rows : goal.invariant-rows
invariant-rows l = record {
  handles : l.column.handles ≡ paste l.initial.column.handles (l.to - length l.arrivals) (map arrival_handle l.arrivals) l.i;
  keeps : KeepsPut (take l.i l.arrivals) l.initial.column l.column;
}
