use Rattle.std.proofs.Common.{subst, sym}
use Rattle.crack_index.specs.Sums.{IsAdditive}
use Rattle.crack_part.specs.KnownSums.{Known, KnowsSums, sum_before}
use Rattle.crack_part.proofs.SumLaws.{sum-parts, sum-nothing}
use Rattle.crack_part.proofs.known.KnownSums.join.Goals as goal

pub returns-clause-knows : goal.returns-clause-knows
returns-clause-knows c = λ plain now.
    let knows = subst (λ (k : Known). KnowsSums k plain) (sym c.self.view_is) now in
    let since = c.self.inside.since in
    let m = sum_before since plain.rows in
    let additive : IsAdditive m = record { parts = sum-parts since plain.rows; none = sum-nothing since plain.rows } in
    record { past = knows.past; right = c.join.ensures.right m additive knows.right }
