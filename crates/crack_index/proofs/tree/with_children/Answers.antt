use Rattle.std.proofs.Common.{◌+◌, arith}
use Rattle.crack_index.proofs.Sides.{IsBalanced-node}
use Rattle.crack_index.proofs.tree.with_children.Goals as goal

pub invariant_of-t-14 : goal.invariant_of-t-14
invariant_of-t-14 c =
    IsBalanced-node c.args.left c.args.mark c.args.right (c.max-height.result + 1) c.requires.rising c.height.ensures.tall c.height-2.ensures.tall c.requires.even (omega (arith, c.max-height.ensures, c.height.ensures.value, c.height-2.ensures.value))
