use Rattle.std.proofs.Common.{rules}
use Rattle.crack_pending.proofs.pass.hit_between.Goals as goal

pub returns : goal.returns
returns c = search rules
