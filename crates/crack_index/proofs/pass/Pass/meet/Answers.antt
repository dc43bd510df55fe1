use Rattle.std.proofs.Common.{rules}
use Rattle.crack_index.proofs.pass.Pass.meet.Goals as goal

pub returns-then-self-eq0-clause-found : goal.returns-then-self-eq0-clause-found
returns-then-self-eq0-clause-found c = search rules
