use Rattle.std.proofs.Common.{arith}
use Rattle.crack_table.proofs.Shares.{as_many}
use Rattle.crack_table.proofs.auditing.compare_lists.Goals as goal

pub cover-requires : goal.cover-requires
cover-requires g c =
    let same = as_many g.J.Naming.owner c.in_ok-lists.lists.items c.args.parts.now.items c.in_ok-lists.ensures in
    rw c.as_slice.ensures.value (omega (arith, same, c.requires.few))
