use Rattle.std.proofs.Common.{Some, ℤ, sym, subst}
use Rattle.crack_index.specs.Sums.{Changes}
use Rattle.crack_part.specs.KnownSums.{with_row}
use Rattle.crack_part.proofs.KnownLemmas.{Changes-added, gained}
use Rattle.crack_part.proofs.known.add.Goals as goal

pub returns-in-Some-clause-right : goal.returns-in-Some-clause-right
returns-in-Some-clause-right c = λ m right. rw c.in-Some.is (c.adjust.ensures.right m (with_row (Some c.in-Some.row) m) (subst (λ (change : ℤ). Changes c.in-Some.row.key.0 change m (with_row (Some c.in-Some.row) m)) (sym (gained c.in-Some.row.payload c.amount.result c.amount.ensures.value c.amount.ensures.least c.amount.ensures.most)) (Changes-added m c.in-Some.row)) right)
