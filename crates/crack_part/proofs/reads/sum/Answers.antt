use Rattle.std.proofs.Common.{ap, sym, ◌∙◌, arith}
use Rattle.std.specs.Int.{w128}
use Rattle.std.proofs.lemmas.Int.{ints, to_z-of_z, fits_signed_from_abs}
use Rattle.crack_row.specs.Rows.{sum_of}
use Rattle.crack_part.proofs.CountLemmas.{rows-none, sum-places, sum-common, within-clipped}
use Rattle.crack_part.proofs.reads.sum.Goals as goal

pub returns-in_default-clause-is : goal.returns-in_default-clause-is
returns-in_default-clause-is c = λ range common plain numbered faithful knows. (ap sum_of (sym (rows-none c.args.store.now range plain.rows (rw c.in_default.is at common) c.recall_invariant.ensures faithful.rows)), knows)

pub returns-in-Some-sum-clause-is : goal.returns-in-Some-sum-clause-is
returns-in-Some-sum-clause-is c = λ range common plain numbered faithful knows.
    let is = rw c.in-Some.is at common in
    let within = within-clipped range c.args.store.now.keys c.in-Some.range is.0 is.1 in
    let known = c.sum.ensures.right within.0 within.1 plain numbered faithful knows in
    let small = c.is_small.ensures.0 c.if-is_small.true in
    let fits = to_z-of_z w128 c.in-Some-sum.sum (fits_signed_from_abs w128 c.in-Some-sum.sum (omega (arith, ints, small.0, small.1))) in
    (fits ∙ rw c.in-Some-sum.is at known.0 ∙ sum-common c.args.store.now range c.in-Some.range plain.rows is c.recall_invariant.ensures faithful.rows, known.1)

pub returns-in_default-sum-clause-is : goal.returns-in_default-sum-clause-is
returns-in_default-sum-clause-is c = λ range common plain numbered faithful knows.
    let is = rw c.in-Some.is at common in
    let within = within-clipped range c.args.store.now.keys c.in-Some.range is.0 is.1 in
    let known = c.sum.ensures.right within.0 within.1 plain numbered faithful knows in
    let small = c.sum_between.ensures.small in
    let fits = to_z-of_z w128 c.sum_between.result (fits_signed_from_abs w128 c.sum_between.result (omega (arith, ints, small.0, small.1))) in
    (fits ∙ c.sum_between.ensures.is ∙ sum-places c.args.store.now range c.in-Some.range plain.rows is c.recall_invariant.ensures (rw c.in-Some.is at c.requires.settled) faithful.rows, known.1)
