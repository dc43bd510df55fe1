use Rattle.std.proofs.Common.{[], sym, arith}
use Rattle.crack_arena.specs.Rows.{unknown}
use Rattle.crack_arena.proofs.Times.{times-nil}
use Rattle.crack_pending.proofs.Coded.{coded_none}
use Rattle.crack_pending.proofs.MemberSpots.{members_emptied}
use Rattle.crack_pending.proofs.Views.{kept_none, few-rows, length-rows}
use Rattle.crack_pending.proofs.list.PendingList.hand_over.Goals as goal

pub invariant_of-self : goal.invariant_of-self
invariant_of-self g c =
    rw (c.take-rows.ensures.left, c.clear-3.ensures.items) (
      kept_none c.self.inside.spots.items,
      sym (times-nil unknown),
      coded_none [] [] c.clear-2.new.self c.clear-2.ensures,
      members_emptied c.self.invariant.3 c.clear.new.self c.clear.ensures.long c.clear.ensures.none,
    )

pub returns-clause-handles : goal.returns-clause-handles
returns-clause-handles g c = rw (← c.self.view_is, c.take-rows.ensures.taken) c.close_up.ensures.closed.handles_are

pub returns-clause-remembered : goal.returns-clause-remembered
returns-clause-remembered g c = rw (← c.self.view_is, c.take-rows.ensures.taken) c.close_up.ensures.closed.remembered_are

pub returns-clause-unknowns : goal.returns-clause-unknowns
returns-clause-unknowns g c = rw (← c.self.view_is) c.self.invariant.1

pub returns-clause-few : goal.returns-clause-few
returns-clause-few g c =
    let a = c.self.invariant.0 in
    rw (← c.self.view_is) (omega (arith, a.few, few-rows a, length-rows a))
