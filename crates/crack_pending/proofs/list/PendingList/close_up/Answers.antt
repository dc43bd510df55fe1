use Rattle.std.proofs.Common.{refl, arith}
use Rattle.crack_pending.proofs.Coded.{coded_none}
use Rattle.crack_pending.proofs.Views.{same_view, closed-kept, closed-handles, closed-remembered, closed-fewer}
use Rattle.crack_pending.proofs.list.PendingList.close_up.Goals as goal

pub invariant_of-self : goal.invariant_of-self
invariant_of-self g c =
    let a = c.self.invariant.0 in
    let closed = c.close_up.ensures.closed in (
      closed-kept a closed,
      rw (closed-remembered a closed) c.self.invariant.1,
      coded_none _ _ c.clear.new.self c.clear.ensures,
      rw (closed-handles a closed) c.self.invariant.3,
    )

pub returns-clause-same : goal.returns-clause-same
returns-clause-same g c =
    let a = c.self.invariant.0 in
    let closed = c.close_up.ensures.closed in
    rw (← c.self.view_is) (same_view _ _ _ _ _ _ _ (closed-handles a closed) (closed-remembered a closed) refl)

pub returns-clause-kept : goal.returns-clause-kept
returns-clause-kept g c =
    let fewer = closed-fewer c.self.invariant.0 c.close_up.ensures.closed in
    rw (← c.self.view_is, c.close_up.ensures.tag_capacity, c.close_up.ensures.stand_capacity) (omega (arith, fewer))

pub returns-clause-remembered : goal.returns-clause-remembered
returns-clause-remembered g c = λ cells r.
    let a = c.self.invariant.0 in
    let closed = c.close_up.ensures.closed in
    rw (closed-handles a closed, closed-remembered a closed) (rw (← c.self.view_is) at r)
