use Rattle.std.proofs.Common.{◌≡◌, [], take, None}
use Rattle.std.specs.List.{flat_map}
use Rattle.std.specs.BTreeMap.{get}
use Rattle.crack_table.specs.Cover.{first_late}
use Rattle.crack_table.specs.Coverage.{Tracks, pair_cmp}
use Rattle.crack_table.proofs.order.first_late.Given as goal

abbrev pub invariant-lists : goal.invariant-lists
invariant-lists l = record {
  tracks : Tracks (get pair_cmp l.last) (flat_map (λ r. r.now) (take l.list-index l.receipts));
  none : first_late [] (flat_map (λ r. r.now) (take l.list-index l.receipts)) ≡ None;
}
