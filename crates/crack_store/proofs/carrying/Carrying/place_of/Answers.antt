use Rattle.std.proofs.Common.{rules}
use Rattle.crack_store.proofs.carrying.Carrying.place_of.Goals as goal

pub returns : goal.returns
returns c = search rules
