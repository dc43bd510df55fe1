use Rattle.std.proofs.Common.{rules}
use Rattle.crack_pending.proofs.codes.Scale.code.Goals as goal

pub returns : goal.returns
returns c = search rules
