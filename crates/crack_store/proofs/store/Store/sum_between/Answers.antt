use Rattle.std.proofs.Common.{◌∙◌, sym, arith}
use Rattle.std.specs.Int.{w128}
use Rattle.std.proofs.lemmas.Int.{ints, to_z-of_z, fits_signed_from_abs}
use Rattle.std.specs.List.{between}
use Rattle.crack_state.proofs.StretchLaws.{sum-payloads}
use Rattle.crack_store.specs.Inside.{lists_of}
use Rattle.crack_store.proofs.store.Store.sum_between.Goals as goal

pub returns-clause-is : goal.returns-clause-is
returns-clause-is c =
    let s = lists_of c.self.inside.inside in
    let places = c.places_of-from.result in
    let small = c.sum_between.ensures.small in
    let fits = to_z-of_z w128 c.sum_between.result (fits_signed_from_abs w128 c.sum_between.result (omega (arith, ints, small.0, small.1))) in
    rw (← c.places_of-from.ensures.from, ← c.places_of-from.ensures.to, ← c.self.view_is) (fits ∙ c.sum_between.ensures.value ∙ sym (sum-payloads s.cells (between places.0 places.1 s.column)))
