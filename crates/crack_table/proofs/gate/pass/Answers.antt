use Rattle.std.proofs.Common.{rules}
use Rattle.crack_table.proofs.gate.pass.Goals as goal

pub returns-clause-cause : goal.returns-clause-cause
returns-clause-cause g c = search rules

pub returns-clause-turns : goal.returns-clause-turns
returns-clause-turns g c = search rules
