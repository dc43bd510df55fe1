use Rattle.std.proofs.Common.{ℕ, refl}
use Rattle.std.proofs.lemmas.List.Sorted.{IsNonDecreasingBy-from_sort}
use Rattle.crack_store.proofs.further.middle.Goals as goal

pub returns : goal.returns
returns c = record {
  rising = c.sort_unstable.new.self;
  order = IsNonDecreasingBy-from_sort (λ (n : ℕ). n) _ c.sort_unstable.ensures.sorted;
  same = c.sort_unstable.ensures.permutation;
  is = refl;
}
