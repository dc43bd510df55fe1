use Rattle.std.proofs.Common.{arith}
use Rattle.crack_core.proofs.RouteLaws.{within-route}
use Rattle.crack_core.proofs.routes.route.Goals as goal

pub returns-clause-within : goal.returns-clause-within
returns-clause-within c = rw (c.splits_up_to.ensures.value, c.bound.ensures) (within-route c.args.splits.now c.args.key.0 c.requires (omega arith))
