use Rattle.std.proofs.Common.{◌+◌, ◌≤◌}
use Rattle.crack_arena.specs.Memories.{Remembers}
use Rattle.crack_bench.proofs.single.column.append_all.Given as goal

-- each handle that is left has room, and what is remembered is right
abbrev pub invariant-handles : goal.invariant-handles
invariant-handles l = (l.rows ≤ l.column.room + l.i) × Remembers l.arena.cells l.column.handles l.column.remembered
