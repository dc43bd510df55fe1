use Rattle.std.proofs.Common.{rules}
use Rattle.crack_store.proofs.further.samples.Goals as goal

pub returns : goal.returns
returns c = search rules
