use Rattle.std.proofs.Common.{arith}
use Rattle.std.proofs.lemmas.Int.{ints, to_z-of_z}
use Rattle.std.proofs.lemmas.List.Sums.{fold_more}
use Rattle.crack_column.proofs.tag.sum_remembered.Goals as goal

pub payloads-preserved : goal.payloads-preserved
payloads-preserved c =
    (grind (arith, ints, to_z-of_z, fold_more), omega (arith, ints, c.amount-sum.ensures.least, c.payloads.invariant), omega (arith, ints, c.amount-sum.ensures.most, c.payloads.invariant))
