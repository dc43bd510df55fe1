use Rattle.std.proofs.Common.{ℕ, ◌<◌, ◌≤◌}
use Rattle.crack_pending.specs.Inside.{IsSpotWith}
use Rattle.crack_pending.proofs.noting.later_spot.Given as goal

abbrev pub invariant-spots : goal.invariant-spots
invariant-spots l = (k : ℕ) → l.from ≤ k → k < l.spot → ¬ IsSpotWith l.tags.handles l.stands l.slot k
