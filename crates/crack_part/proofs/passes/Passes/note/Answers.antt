use Rattle.std.proofs.Common.{rules}
use Rattle.crack_part.proofs.passes.Passes.note.Goals as goal

pub returns : goal.returns
returns c = search rules
