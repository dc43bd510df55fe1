use Rattle.std.proofs.Common.{◌≡◌, ◌-◌, ◌<◌, ◌≤◌, ℕ, vec_len, vec_capacity}
use Rattle.std.specs.Prelude.{slice_index}
use Rattle.crack_pending.proofs.room.lengthen.Given as goal

abbrev pub invariant-cells : goal.invariant-cells
invariant-cells l = record {
  same : (k : ℕ) → k < vec_len l.initial.spots → slice_index l.spots.items k ≡ slice_index l.initial.spots.items k;
  longer : vec_len l.initial.spots ≤ vec_len l.spots;
  within : vec_len l.spots ≤ vec_capacity l.spots;
  far : l.end ≤ vec_capacity l.spots;
  capacity : vec_capacity l.spots ≡ vec_capacity l.initial.spots;
}

abbrev pub decreases-cells : goal.decreases-cells
decreases-cells l = l.end - vec_len l.spots
