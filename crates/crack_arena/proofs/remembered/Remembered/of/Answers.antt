use Rattle.std.proofs.Common.{rules}
use Rattle.crack_arena.proofs.remembered.Remembered.of.Goals as goal

pub returns : goal.returns
returns c = search rules
