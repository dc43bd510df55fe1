use Rattle.std.proofs.Common.{rules}
use Rattle.crack_arena.proofs.handles.Handle.generation.Goals as goal

pub returns : goal.returns
returns g c = search rules
