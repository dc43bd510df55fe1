use Rattle.std.proofs.Common.{ℕ, ◌<◌, ◌≤◌, get_or}
use Rattle.crack_store.specs.declared.opening.Arrival.{Arrival}
use Rattle.crack_store.proofs.opening.count_below.Given as goal

abbrev pub invariant-rows : goal.invariant-rows
invariant-rows l = record {
  few : l.next ≤ l.left;
  above : (k : ℕ) (d : Arrival) → l.next ≤ k → k < l.left → l.bound ≤ (get_or l.arrivals k d).key;
}

abbrev pub decreases-rows : goal.decreases-rows
decreases-rows l = l.next
