use Rattle.std.proofs.Common.{sym}
use Rattle.crack_pending.proofs.Views.{length-rows}
use Rattle.crack_pending.proofs.list.PendingList.len.Goals as goal

pub returns : goal.returns
returns g c = rw (← c.self.view_is) (sym (length-rows c.self.invariant.0))
