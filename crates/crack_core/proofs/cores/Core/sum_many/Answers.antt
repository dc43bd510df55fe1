use Rattle.std.proofs.Common.{arith, ap, refl, sym, ◌∙◌, w64, to_z, of_z}
use Rattle.std.specs.Prelude.{◌≡◌, ◌<◌, length}
use Rattle.std.specs.Int.{w128}
use Rattle.std.proofs.lemmas.Int.{ints}
use Rattle.crack_core.specs.Bulk.{none, stopped, of_halves}
use Rattle.crack_core.proofs.BulkLaws.{went-whole, sums-more}
use Rattle.crack_core.proofs.cores.Core.sum_many.Goals as goal

pub each-init : goal.each-init
each-init c = record { so_far = none; opened = (refl, refl) }

pub returns-in-Err-clause-sums : goal.returns-in-Err-clause-sums
returns-in-Err-clause-sums c =
    rw c.stopped.ensures (stopped c.each.i c.in-Err.refusal c.each.self.parts _ c.each-test.true c.each.invariant.so_far (rw (c.each.invariant.opened.1, c.each.invariant.opened.0) at c.in-Err.ensures.sums))

pub returns-in-Err-clause-opened : goal.returns-in-Err-clause-opened
returns-in-Err-clause-opened c = (c.in-Err.ensures.opened.0 ∙ c.each.invariant.opened.0, c.in-Err.ensures.opened.1 ∙ c.each.invariant.opened.1)

pub each-preserved : goal.each-preserved
each-preserved c =
    let in_lows : c.each.i < length c.each.lows = omega arith in
    let in_highs : c.each.i < length c.each.highs = omega arith in
    let small = c.in-Ok.ensures.small in
    let read : to_z w128 (of_z w128 c.in-Ok.sum) ≡ c.in-Ok.sum = omega (arith, ints, small.0, small.1) in
    let halves = c.halves-halves.ensures.small in
    let written : to_z w64 (of_z w64 c.halves-halves.result.1) ≡ c.halves-halves.result.1 = omega (arith, ints, halves.0, halves.1) in record {
      so_far =
          sums-more c.args.self.now.limits c.args.self.now.splits c.args.policy c.args.firsts.now c.args.lasts.now c.each.lows c.each.highs c.each.i c.halves-halves.result.0 (to_z w64 (of_z w64 c.halves-halves.result.1)) c.in-Ok.sum c.args.self.now.parts c.each.self.parts c.sum_keys.new.self.parts
          in_lows in_highs (sym read ∙ c.halves-halves.ensures.value ∙ ap (of_halves c.halves-halves.result.0) (sym written)) c.each.invariant.so_far (rw (c.each.invariant.opened.1, c.each.invariant.opened.0) at c.in-Ok.ensures.sums);
      opened = (c.in-Ok.ensures.opened.0 ∙ c.each.invariant.opened.0, c.in-Ok.ensures.opened.1 ∙ c.each.invariant.opened.1);
    }

pub returns-clause-sums : goal.returns-clause-sums
returns-clause-sums c = rw c.whole.ensures (went-whole _ _ (length c.args.firsts.now) c.each.i _ c.each-test.false c.each.auto.i-end c.each.invariant.so_far)

pub returns-clause-opened : goal.returns-clause-opened
returns-clause-opened c = c.each.invariant.opened
