use Rattle.std.proofs.Common.{arith}
use Rattle.std.proofs.lemmas.Int.{ints, to_z-of_z}
use Rattle.std.proofs.lemmas.List.Sums.{fold_more}
use Rattle.crack_plain.specs.Plain.{IsSmall}
use Rattle.crack_core.proofs.AskLaws.{summed-small}
use Rattle.crack_core.proofs.turns.total_sum.Goals as goal

pub replies-preserved : goal.replies-preserved
replies-preserved c =
    let item = c.reply-item.result in
    let told : IsSmall item.reply = rw (← c.reply-item.is) at (c.requires.small c.replies.reply-index item c.replies-test.true) in
    let small = summed-small item.reply told in
    (grind (arith, ints, to_z-of_z, fold_more), omega (arith, ints, c.summed-total.ensures, small.0, c.replies.invariant), omega (arith, ints, c.summed-total.ensures, small.1, c.replies.invariant))
