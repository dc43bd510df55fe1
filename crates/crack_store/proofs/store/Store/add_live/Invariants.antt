use Rattle.std.proofs.Common.{◌+◌}
use Rattle.std.specs.List.Sorted.{IsPermutation}
use Rattle.crack_store.specs.Found.{KeepsOrder, all_of, live_below}
use Rattle.crack_store.proofs.store.Store.add_live.Given as goal

abbrev pub invariant-cells : goal.invariant-cells
invariant-cells l = IsPermutation (live_below l.range (l.slot + l.place) l.self) (all_of l.found) × KeepsOrder l.found
