use Rattle.std.proofs.Common.{ℕ, ◌-◌, ◌<◌, ◌≤◌, length}
use Rattle.std.specs.Prelude.{slice_index}
use Rattle.crack_pending.proofs.ahead.first_after.Given as goal

abbrev pub invariant-passed : goal.invariant-passed
invariant-passed l = record {
  after : l.next ≤ l.place;
  passed : (k : ℕ) → l.next ≤ k → k < l.place → slice_index l.candidates k < l.start;
}

abbrev pub decreases-passed : goal.decreases-passed
decreases-passed l = length l.candidates - l.place
