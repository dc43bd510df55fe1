use Rattle.std.proofs.Common.{◌≡◌, ◌<◌, ℕ, Some}
use Rattle.std.specs.List.{slice_get}
use Rattle.crack_table.specs.declared.states.PlaceState.{PlaceState}
use Rattle.crack_table.specs.declared.states.PlaceState.TheVariants.{Met}
use Rattle.crack_table.proofs.states.PlaceStates.first_open.Given as goal

abbrev pub invariant-places : goal.invariant-places
invariant-places l = (n : ℕ) (k : PlaceState) → n < l.place → slice_get l.state-items n ≡ Some k → k ≡ Met
