use Rattle.std.proofs.Common.{rules}
use Rattle.crack_pending.proofs.pass.first_hit.Goals as goal

pub returns-in-None : goal.returns-in-None
returns-in-None c = search rules
