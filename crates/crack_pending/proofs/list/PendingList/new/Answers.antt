use Rattle.std.proofs.Common.{[], sym}
use Rattle.crack_arena.specs.Rows.{unknown}
use Rattle.crack_arena.proofs.Times.{times-nil}
use Rattle.crack_pending.proofs.Coded.{coded_none}
use Rattle.crack_pending.proofs.Members.{members_none}
use Rattle.crack_pending.proofs.Views.{kept_none}
use Rattle.crack_pending.proofs.list.PendingList.new.Goals as goal

pub invariant_of-result : goal.invariant_of-result
invariant_of-result g c =
    rw (c.new.ensures, c.new-3.ensures.items, c.new-4.ensures.items, c.new-5.ensures) (kept_none [], sym (times-nil unknown), coded_none [] [] c.new-2.result c.new-2.ensures, members_none)
