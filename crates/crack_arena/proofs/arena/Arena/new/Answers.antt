use Rattle.crack_arena.proofs.ArenaLemmas.{IsLinked-none}
use Rattle.crack_arena.proofs.arena.Arena.new.Goals as goal

pub invariant_of-result : goal.invariant_of-result
invariant_of-result g c = IsLinked-none c.new.result.items c.new.ensures.items
