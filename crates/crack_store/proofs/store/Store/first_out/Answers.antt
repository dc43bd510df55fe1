use Rattle.std.proofs.Common.{rules}
use Rattle.crack_store.proofs.store.Store.first_out.Goals as goal

pub returns : goal.returns
returns c = search rules
