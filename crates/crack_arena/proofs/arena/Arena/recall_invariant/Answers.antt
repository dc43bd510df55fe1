use Rattle.crack_arena.proofs.ArenaLemmas.{IsWhole-from}
use Rattle.crack_arena.proofs.arena.Arena.recall_invariant.Goals as goal

pub returns : goal.returns
returns g c = rw (← c.self.view_is) (IsWhole-from c.self.inside.cells.items c.self.inside.head c.self.inside.free c.self.inside.freed _ c.self.invariant)
