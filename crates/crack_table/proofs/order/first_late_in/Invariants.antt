use Rattle.std.proofs.Common.{◌≡◌, List, ◌++◌, take, drop}
use Rattle.std.specs.BTreeMap.{get}
use Rattle.crack_witness.specs.declared.receipt.Receipt.{Receipt}
use Rattle.crack_table.specs.Cover.{first_late}
use Rattle.crack_table.specs.Coverage.{Tracks, pair_cmp}
use Rattle.crack_table.proofs.order.first_late_in.Given as goal

abbrev pub invariant-list : goal.invariant-list
invariant-list l = record {
  tracks : (done : List Receipt) → Tracks (get pair_cmp l.initial.last) done → Tracks (get pair_cmp l.last) (done ++ take l.receipt-index l.list);
  rest : (done : List Receipt) → Tracks (get pair_cmp l.initial.last) done → first_late done l.list ≡ first_late (done ++ take l.receipt-index l.list) (drop l.receipt-index l.list);
}
