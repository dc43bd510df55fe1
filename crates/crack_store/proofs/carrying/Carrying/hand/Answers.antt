use Rattle.std.proofs.Common.{rules}
use Rattle.crack_store.proofs.carrying.Carrying.hand.Goals as goal

pub returns-clause-row : goal.returns-clause-row
returns-clause-row c = search rules
