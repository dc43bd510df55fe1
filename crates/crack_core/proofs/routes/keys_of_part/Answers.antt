use Rattle.std.proofs.Common.{arith}
use Rattle.crack_core.proofs.RouteLaws.{ends-ordered, ends-bounded}
use Rattle.crack_core.proofs.routes.keys_of_part.Goals as goal

pub unreachable-requires : goal.unreachable-requires
unreachable-requires c =
    let order = ends-ordered c.args.splits.now c.args.part c.requires.splits c.requires.there in
    let bound = ends-bounded c.args.splits.now c.args.part c.requires.splits in
    c.in-Err.ensures.err.1 (omega (arith, order), omega (arith, bound))
