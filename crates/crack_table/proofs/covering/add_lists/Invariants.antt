use Rattle.std.proofs.Common.{◌≡◌, map, take}
use Rattle.std.specs.List.{flat_map}
use Rattle.std.specs.Option.{option_map}
use Rattle.crack_table.specs.Cover.{first_stranger}
use Rattle.crack_table.specs.Coverage.{named_place, IsCoverage}
use Rattle.crack_table.proofs.covering.add_lists.Given as goal

abbrev pub invariant-lists : goal.invariant-lists
invariant-lists l = record {
  coverage : IsCoverage (map (λ l. l.now) l.lists) l.states.items (flat_map (λ r. r.now) (take l.list-index l.receipts));
  stranger : l.stranger ≡ option_map named_place (first_stranger (map (λ l. l.now) l.lists) (flat_map (λ r. r.now) (take l.list-index l.receipts)));
}
