use Rattle.std.proofs.Common.{rules}
use Rattle.crack_arena.proofs.remembered.Remembered.nothing.Goals as goal

pub returns : goal.returns
returns c = search rules
