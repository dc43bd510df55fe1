use Rattle.std.proofs.Common.{◌≡◌, List, ◌++◌, map, take}
use Rattle.std.specs.Option.{option_map}
use Rattle.crack_witness.specs.declared.receipt.Receipt.{Receipt}
use Rattle.crack_table.specs.Cover.{first_stranger}
use Rattle.crack_table.specs.Coverage.{named_place, IsCoverage}
use Rattle.crack_table.proofs.covering.add_all.Given as goal

abbrev pub invariant-list : goal.invariant-list
invariant-list l = record {
  coverage : (done : List Receipt) → IsCoverage (map (λ l. l.now) l.lists) l.initial.states.items done → IsCoverage (map (λ l. l.now) l.lists) l.states.items (done ++ take l.receipt-index l.receipts);
  stranger : l.stranger ≡ option_map named_place (first_stranger (map (λ l. l.now) l.lists) (take l.receipt-index l.receipts));
}
