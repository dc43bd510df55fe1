use Rattle.std.proofs.Common.{◌≡◌, ◌-◌, ◌≤◌, length, drop, take, map, vec_capacity}
use Rattle.crack_arena.specs.Memories.{Remembers}
use Rattle.crack_column.specs.Drains.{doomed_handle}
use Rattle.crack_store.proofs.SweepLemmas.{IsParting}
use Rattle.crack_store.proofs.sweeping.take_doomed.Given as goal

abbrev pub invariant-rows : goal.invariant-rows
invariant-rows l = record {
  parting : IsParting l.pending_out.handles (take l.from l.initial.column.handles) (drop l.from l.initial.column.handles) l.from l.column.handles (map doomed_handle l.doomed.items) l.low l.place;
  remembers : Remembers l.arena.cells l.column.handles l.column.remembered;
  room : length l.initial.column.handles - l.from ≤ vec_capacity l.doomed;
  long : length l.column.handles ≡ length l.initial.column.handles;
}
