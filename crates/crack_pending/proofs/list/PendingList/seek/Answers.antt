use Rattle.std.proofs.Common.{arith}
use Rattle.crack_pending.proofs.Views.{length-rows}
use Rattle.crack_pending.proofs.list.PendingList.seek.Goals as goal

pub spot_of-self-inside-requires-clause-within : goal.spot_of-self-inside-requires-clause-within
spot_of-self-inside-requires-clause-within g c =
    let a = c.self.invariant.0 in
    let within = rw (← c.self.view_is) at c.requires in
    omega (arith, within, length-rows a)
