use Rattle.std.proofs.Common.{◌≡◌, ◌<◌, ◌≤◌, ◌-◌, ℕ, false, get_or}
use Rattle.crack_arena.specs.Arena.{no_handle}
use Rattle.crack_state.specs.Sweeps.{goes_on}
use Rattle.crack_store.specs.Sweepings.{ends_in, up_to}
use Rattle.crack_store.proofs.sweeping.next_going.Given as goal

abbrev pub invariant-used : goal.invariant-used
invariant-used l = record {
  low : l.used ≤ l.next;
  high : l.next ≤ l.place;
  before : (k : ℕ) → l.used ≤ k → k < l.next → goes_on (ends_in l.pending_out.handles) (up_to l.arena.cells l.pending_out.handles l.high) (get_or l.column.handles k no_handle) ≡ false;
}

abbrev pub decreases-used : goal.decreases-used
decreases-used l = l.place - l.next
