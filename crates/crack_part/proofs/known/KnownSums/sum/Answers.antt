use Rattle.std.proofs.Common.{◌≡◌, ◌<◌, ℕ, ap, sym, subst, ◌∙◌}
use Rattle.std.specs.List.{All}
use Rattle.std.proofs.lemmas.Option.{IfSome_then}
use Rattle.crack_row.specs.declared.Row.{Row}
use Rattle.crack_index.specs.Sums.{IsAdditive}
use Rattle.crack_part.specs.KnownSums.{Known, KnowsSums, sum_before}
use Rattle.crack_part.proofs.SumLaws.{sum-parts, sum-nothing, sum-all}
use Rattle.crack_part.proofs.known.KnownSums.sum.Goals as goal

pub returns-clause-right : goal.returns-clause-right
returns-clause-right c = λ low high plain numbered faithful now.
    let caught = c.catch_up.ensures.knows plain numbered faithful now in
    let knows = subst (λ (k : Known). KnowsSums k plain) (sym c.self.view_is) caught.0 in
    let since = c.self.inside.since in
    let last : since ≡ plain.next = ap (λ (k : Known). k.since) c.self.view_is ∙ caught.1 ∙ faithful.serial in
    let below = subst (λ (n : ℕ). All (λ (row : Row). row.serial.0 < n) plain.rows) (sym last) numbered.below in
    let m = sum_before since plain.rows in
    let additive : IsAdditive m = record { parts = sum-parts since plain.rows; none = sum-nothing since plain.rows } in
    let right = c.sum.ensures.right m additive (λ from to sum filled said. said c.requires.settled low high plain.rows faithful.rows ∙ sym (sum-all since (record { low = from; high = to }) plain.rows below)) knows.right in
    (IfSome_then c.sum.result right.0 (λ sum is. is ∙ sum-all since c.args.range plain.rows below), record { past = knows.past; right = right.1 })
