use Rattle.std.proofs.Common.{arith}
use Rattle.crack_pending.proofs.Views.{place-StandsAt, read-at, length-rows}
use Rattle.crack_pending.proofs.list.PendingList.at.Goals as goal

pub spot_of-requires-clause-within : goal.spot_of-requires-clause-within
spot_of-requires-clause-within g c =
    let a = c.self.invariant.0 in
    let within = rw (← c.self.view_is) at c.requires in
    omega (arith, within, length-rows a)

pub returns : goal.returns
returns g c =
    let a = c.self.invariant.0 in
    let stands = rw (c.deref.ensures.value) at c.spot_of.ensures.stands in
    let place = rw (c.deref.ensures.value) at c.spot_of.ensures.place in
    let there = place-StandsAt c.self.inside.tags.handles c.self.inside.stands.items a.stands_beside c.spot_of.result c.handle.result stands (read-at c.self.inside.tags.handles c.self.inside.stands.items a.stands_beside c.spot_of.result c.handle.result stands c.handle.ensures) in
    rw (← c.self.view_is) (rw place at there)
