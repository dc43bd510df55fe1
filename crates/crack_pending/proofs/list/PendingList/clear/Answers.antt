use Rattle.std.proofs.Common.{[], sym}
use Rattle.crack_arena.specs.Rows.{unknown}
use Rattle.crack_arena.proofs.Times.{times-nil}
use Rattle.crack_pending.proofs.Coded.{coded_none}
use Rattle.crack_pending.proofs.MemberSpots.{members_clear}
use Rattle.crack_pending.proofs.Views.{kept_none}
use Rattle.crack_pending.proofs.list.PendingList.clear.Goals as goal

pub strike_all-requires : goal.strike_all-requires
strike_all-requires g c = λ slot some.
    let listed = rw (c.close_up.ensures.closed.handles_are) at some in
    (c.self.invariant.3.right slot).1 listed

pub invariant_of-self : goal.invariant_of-self
invariant_of-self g c =
    let struck = rw (c.close_up.ensures.closed.handles_are) at c.strike_all.ensures.struck in
    rw (c.truncate.ensures, c.clear-2.ensures.items) (
      kept_none c.self.inside.spots.items,
      sym (times-nil unknown),
      coded_none [] [] c.clear.new.self c.clear.ensures,
      members_clear c.self.invariant.3 c.strike_all.new.members c.strike_all.ensures.long struck,
    )
