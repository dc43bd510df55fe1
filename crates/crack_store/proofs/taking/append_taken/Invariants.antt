use Rattle.std.proofs.Common.{◌≡◌, ◌+◌, ◌≤◌, ◌++◌, length, take, drop, map}
use Rattle.crack_arena.specs.Memories.{Remembers, memory_at}
use Rattle.crack_store.proofs.taking.append_taken.Given as goal

-- those that were passed are after the others in the column, and are remembered
abbrev pub invariant-rows : goal.invariant-rows
invariant-rows l = record {
  handles : l.column.handles ≡ l.initial.column.handles ++ take l.i l.rows;
  remembered : Remembers l.arena.cells l.column.handles l.column.remembered;
  longer : length l.initial.column.handles ≤ length l.column.handles;
  read : drop (length l.initial.column.handles) l.column.remembered ≡ map (memory_at l.arena.cells) (drop (length l.initial.column.handles) l.column.handles);
  room : length l.rows ≤ l.column.room + l.i;
}
