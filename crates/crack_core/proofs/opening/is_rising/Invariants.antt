use Rattle.std.proofs.Common.{◌≡◌, drop}
use Rattle.crack_core.specs.Routes.{is_rising}
use Rattle.crack_core.proofs.opening.is_rising.Given as goal

abbrev pub invariant-loop-split : goal.invariant-loop-split
invariant-loop-split l = is_rising 0 l.splits ≡ is_rising l.low.0 (drop l.split-index l.splits)
