use Rattle.std.proofs.Common.{◌≡◌, ◌≤◌, take}
use Rattle.crack_store.specs.Further.{count_below}
use Rattle.crack_store.proofs.further.count_below.Given as goal

abbrev pub invariant-keys : goal.invariant-keys
invariant-keys l = (l.below ≤ l.i) × (l.below ≡ count_below l.initial.bound.0 (take l.i l.keys))
