use Rattle.std.proofs.Common.{◌≡◌, ◌+◌, ◌≤◌, drop}
use Rattle.crack_store.specs.Sweepings.{leaving}
use Rattle.crack_store.proofs.sweeping.count_going.Given as goal

abbrev pub invariant-rows : goal.invariant-rows
invariant-rows l = record {
  counts : l.count + leaving l.arena.cells l.pending_out.handles l.high (drop l.place l.column.handles) ≡ leaving l.arena.cells l.pending_out.handles l.high (drop l.from l.column.handles);
  few : l.count + l.from ≤ l.place;
}
