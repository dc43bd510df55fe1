use Rattle.std.proofs.Common.{arith, ◌∙◌}
use Rattle.std.specs.Int.{w128}
use Rattle.std.proofs.lemmas.Int.{ints, to_z-of_z, fits_signed_from_abs}
use Rattle.crack_state.proofs.StretchLaws.{sum-settled}
use Rattle.crack_part.proofs.known.SettledSumSource.sum.Goals as goal

pub returns-clause-says : goal.returns-clause-says
returns-clause-says c = λ settled low high plain same.
    let small = c.sum_between.ensures.small in
    let fits = to_z-of_z w128 c.sum_between.result (fits_signed_from_abs w128 c.sum_between.result (omega (arith, ints, small.0, small.1))) in
    let inner = c.is_settled.ensures.settled c.if-not-is_settled.false settled low high in
    fits ∙ c.sum_between.ensures.is ∙ sum-settled c.args.self.now.store.now c.args.range plain inner same
