use Rattle.std.proofs.Common.{◌≡◌, ◌<◌, ℕ, length, get_or, All}
use Rattle.crack_store.specs.Inside.{no_cells}
use Rattle.crack_part.specs.Parts.{Part, IsSound, table_of}
use Rattle.crack_core.specs.Routes.{keys_of_part}
use Rattle.crack_core.specs.Steps.{fresh_table}
use Rattle.crack_core.proofs.opening.open_partitions.Given as goal

abbrev pub invariant-loop-part : goal.invariant-loop-part
invariant-loop-part l = record {
  count : length l.parts.items ≡ l.part;
  keys : (k : ℕ) (d : Part) → k < length l.parts.items → (get_or l.parts.items k d).keys ≡ keys_of_part l.splits k;
  alike : All (λ (part : Part). part.limits ≡ l.limits) l.parts.items;
  sound : All IsSound l.parts.items;
  fresh : All (λ (part : Part). table_of part ≡ fresh_table) l.parts.items;
  empty : All (λ (part : Part). part.store ≡ no_cells part.keys part.store.column_room part.store.in_room) l.parts.items;
}
