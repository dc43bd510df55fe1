use Rattle.std.proofs.Common.{rules}
use Rattle.crack_commands.proofs.statement.policy_named.Goals as goal

pub returns-then-eq : goal.returns-then-eq
returns-then-eq c = search rules
