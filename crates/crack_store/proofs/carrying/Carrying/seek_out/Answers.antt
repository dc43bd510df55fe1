use Rattle.std.proofs.Common.{rules}
use Rattle.crack_store.proofs.carrying.Carrying.seek_out.Goals as goal

pub returns-clause-finds : goal.returns-clause-finds
returns-clause-finds c = search rules
