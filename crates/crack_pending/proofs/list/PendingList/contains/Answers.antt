use Rattle.std.proofs.Common.{rules}
use Rattle.crack_pending.proofs.list.PendingList.contains.Goals as goal

pub returns : goal.returns
returns g c = search rules
