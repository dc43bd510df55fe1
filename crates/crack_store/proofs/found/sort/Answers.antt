use Rattle.std.proofs.Common.{rules}
use Rattle.std.proofs.lemmas.List.Sorted.{IsNonDecreasingBy-from_sort, answers_always}
use Rattle.crack_state.specs.Stretch.{serial_of}
use Rattle.crack_store.proofs.found.sort.Goals as goal

pub returns-clause-rising : goal.returns-clause-rising
returns-clause-rising c =
    IsNonDecreasingBy-from_sort serial_of _ (c.sort_unstable_by_key.ensures.sorted serial_of (answers_always _ _ _ (λ f a r g h. search rules)))

pub returns-in-Ok-clause-rising : goal.returns-in-Ok-clause-rising
returns-in-Ok-clause-rising c =
    IsNonDecreasingBy-from_sort serial_of _ (c.in-Ok.ensures.sorted serial_of (answers_always _ _ _ (λ f a r g h. search rules)))
