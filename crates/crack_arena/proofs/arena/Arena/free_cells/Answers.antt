use Rattle.std.proofs.Common.{sym}
use Rattle.crack_arena.specs.Links.{words_of}
use Rattle.crack_arena.proofs.ArenaLemmas.{length-chain}
use Rattle.crack_arena.proofs.arena.Arena.free_cells.Goals as goal

pub returns : goal.returns
returns g c = rw (← c.self.view_is) (sym (length-chain (words_of c.self.inside.cells.items) c.self.inside.head c.self.inside.free))
