use Rattle.std.proofs.Common.{rules}
use Rattle.crack_table.proofs.gate.OpenGateGate.inside.Goals as goal

pub returns : goal.returns
returns c = search rules
