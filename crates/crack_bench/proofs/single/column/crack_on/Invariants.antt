use Rattle.crack_arena.specs.Memories.{Remembers}
use Rattle.crack_bench.proofs.single.column.crack_on.Given as goal

-- what is remembered is right
abbrev pub invariant-cracks : goal.invariant-cracks
invariant-cracks l = Remembers l.arena.cells l.column.handles l.column.remembered
