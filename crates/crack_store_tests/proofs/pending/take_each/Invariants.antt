use Rattle.crack_arena.specs.Memories.{Remembers}
use Rattle.crack_store_tests.proofs.pending.take_each.Given as goal

abbrev pub invariant-rows : goal.invariant-rows
invariant-rows g l = Remembers l.arena.cells l.pending.handles l.pending.remembered
