use Rattle.std.proofs.Common.{◌≡◌, ◌+◌, ◌≤◌, take, drop, length}
use Rattle.std.specs.List.{between}
use Rattle.crack_arena.specs.Memories.{Remembers}
use Rattle.crack_store.proofs.SweepLemmas.{IsOn}
use Rattle.crack_store.proofs.sweeping.sweep_piece.Given as goal

abbrev pub invariant-rows : goal.invariant-rows
invariant-rows l = record {
  on : IsOn l.arena.cells l.pending_out.handles l.low l.high (take l.fn.places.0 l.initial.column.handles) (between l.fn.places.0 l.fn.places.1 l.initial.column.handles) (between l.fn.places.1 l.from l.initial.column.handles) (drop l.from l.initial.column.handles) l.fn.places.0 l.fn.places.1 l.from l.column.handles l.front l.used l.made l.going l.place;
  few : l.going + l.from ≤ l.place;
  remembers : Remembers l.arena.cells l.column.handles l.column.remembered;
  long : length l.column.handles ≡ length l.initial.column.handles;
}
