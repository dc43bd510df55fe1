use Rattle.std.proofs.Common.{◌≡◌, ◌+◌, ◌++◌, take}
use Rattle.crack_arena.specs.Memories.{Remembers}
use Rattle.crack_store.proofs.appending.append_rows.Given as goal

-- the first rows, this many, are after the others
abbrev pub invariant-rows : goal.invariant-rows
invariant-rows l = record {
  handles : l.column.handles ≡ l.initial.column.handles ++ take l.place l.rows.handles;
  remembered : Remembers l.arena.cells l.column.handles l.column.remembered;
  room : l.column.room + l.place ≡ l.initial.column.room;
}
