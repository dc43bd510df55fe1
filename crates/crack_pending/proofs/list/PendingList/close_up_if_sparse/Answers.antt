use Rattle.std.proofs.Common.{arith}
use Rattle.crack_pending.proofs.Views.{few-rows}
use Rattle.crack_pending.proofs.list.PendingList.close_up_if_sparse.Goals as goal

pub overflow_sub-len : goal.overflow_sub-len
overflow_sub-len g c = omega (arith, few-rows c.self.invariant.0, c.len.ensures)
