use Rattle.std.proofs.Common.{◌≤◌, ◌-◌, length}
use Rattle.std.specs.List.Sorted.{IsPermutation}
use Rattle.crack_store.specs.Found.{KeepsOrder, all_of, live_below}
use Rattle.crack_store.proofs.store.Store.rows_by_cells.Given as goal

abbrev pub invariant-runs : goal.invariant-runs
invariant-runs l = (l.slot ≤ length l.self.cells) × IsPermutation (live_below l.range l.slot l.self) (all_of l.found) × KeepsOrder l.found

abbrev pub decreases-runs : goal.decreases-runs
decreases-runs l = length l.self.cells - l.slot
