use Rattle.crack_arena.specs.Memories.{Remembers}
use Rattle.crack_store_tests.proofs.column.make_all.Given as goal

abbrev pub invariant-steps : goal.invariant-steps
invariant-steps g l = Remembers l.arena.cells l.column.handles l.column.remembered
