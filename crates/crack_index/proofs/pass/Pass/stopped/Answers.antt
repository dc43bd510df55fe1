use Rattle.std.proofs.Common.{rules}
use Rattle.crack_index.proofs.pass.Pass.stopped.Goals as goal

pub returns-then-self-eq0 : goal.returns-then-self-eq0
returns-then-self-eq0 c = search rules
