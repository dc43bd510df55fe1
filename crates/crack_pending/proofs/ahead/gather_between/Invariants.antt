use Rattle.std.proofs.Common.{◌≡◌, ℕ, ◌+◌, ◌-◌, ◌≤◌, vec_len, vec_capacity}
use Rattle.crack_pending.specs.Ahead.{AreCandidates}
use Rattle.crack_pending.proofs.ahead.gather_between.Given as goal

abbrev pub invariant-spots : goal.invariant-spots
invariant-spots l = record {
  gathered : (begin : ℕ) → AreCandidates l.codes l.first l.last begin l.from l.initial.candidates.items 0 → AreCandidates l.codes l.first l.last begin l.spot l.candidates.items 0;
  long : vec_len l.candidates ≤ vec_len l.initial.candidates + (l.spot - l.from);
  capacity : vec_capacity l.candidates ≡ vec_capacity l.initial.candidates;
}
