use Rattle.std.proofs.Common.{arith, refl, ◌∙◌}
use Rattle.std.specs.Prelude.{◌<◌, length}
use Rattle.crack_core.specs.Bulk.{none, stopped}
use Rattle.crack_core.proofs.BulkLaws.{went-whole, counts-more}
use Rattle.crack_core.proofs.cores.Core.count_many.Goals as goal

pub each-init : goal.each-init
each-init c = record { so_far = none; opened = (refl, refl) }

pub returns-in-Err-clause-counts : goal.returns-in-Err-clause-counts
returns-in-Err-clause-counts c =
    rw c.stopped.ensures (stopped c.each.i c.in-Err.refusal c.each.self.parts _ c.each-test.true c.each.invariant.so_far (rw (c.each.invariant.opened.1, c.each.invariant.opened.0) at c.in-Err.ensures.counts))

pub returns-in-Err-clause-opened : goal.returns-in-Err-clause-opened
returns-in-Err-clause-opened c = (c.in-Err.ensures.opened.0 ∙ c.each.invariant.opened.0, c.in-Err.ensures.opened.1 ∙ c.each.invariant.opened.1)

pub each-preserved : goal.each-preserved
each-preserved c =
    let within : c.each.i < length c.each.counts = omega arith in record {
      so_far =
          counts-more c.args.self.now.limits c.args.self.now.splits c.args.policy c.args.firsts.now c.args.lasts.now c.each.counts c.each.i c.in-Ok.count c.args.self.now.parts c.each.self.parts c.count_keys.new.self.parts
          within c.each.invariant.so_far (rw (c.each.invariant.opened.1, c.each.invariant.opened.0) at c.in-Ok.ensures.counts);
      opened = (c.in-Ok.ensures.opened.0 ∙ c.each.invariant.opened.0, c.in-Ok.ensures.opened.1 ∙ c.each.invariant.opened.1);
    }

pub returns-clause-counts : goal.returns-clause-counts
returns-clause-counts c = rw c.whole.ensures (went-whole _ _ (length c.args.firsts.now) c.each.i _ c.each-test.false c.each.auto.i-end c.each.invariant.so_far)

pub returns-clause-opened : goal.returns-clause-opened
returns-clause-opened c = c.each.invariant.opened
