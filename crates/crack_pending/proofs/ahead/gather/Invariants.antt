use Rattle.std.proofs.Common.{◌≡◌, ◌-◌, length, vec_capacity}
use Rattle.crack_pending.specs.Ahead.{AreCandidates}
use Rattle.crack_pending.proofs.ahead.gather.Given as goal

abbrev pub invariant-far : goal.invariant-far
invariant-far l = record {
  gathered : AreCandidates l.codes l.first l.last l.from l.spot l.candidates.items 0;
  capacity : vec_capacity l.candidates ≡ vec_capacity l.initial.candidates;
}

abbrev pub decreases-far : goal.decreases-far
decreases-far l = length l.codes - l.spot
