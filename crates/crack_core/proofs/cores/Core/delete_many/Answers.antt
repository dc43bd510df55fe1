use Rattle.std.proofs.Common.{arith, refl, ◌∙◌}
use Rattle.std.specs.Prelude.{◌<◌, length}
use Rattle.crack_core.specs.Bulk.{none}
use Rattle.crack_core.proofs.BulkLaws.{went-whole, deletes-more, deletes-stop}
use Rattle.crack_core.proofs.cores.Core.delete_many.Goals as goal

pub rows-init : goal.rows-init
rows-init c = record { so_far = none; opened = (refl, refl) }

pub returns-in-Err-clause-deletes : goal.returns-in-Err-clause-deletes
returns-in-Err-clause-deletes c =
    rw c.stopped.ensures (deletes-stop c.args.self.now.limits c.args.self.now.splits c.args.parts.now c.args.serials.now c.rows.gone c.rows.i c.row_of-row.result c.in-Err.refusal c.args.self.now.parts c.rows.self.parts c.delete.new.self.parts
    c.rows-test.true c.row_of-row.ensures c.rows.invariant.so_far (rw (c.rows.invariant.opened.1, c.rows.invariant.opened.0) at c.in-Err.ensures.deletes))

pub returns-in-Err-clause-opened : goal.returns-in-Err-clause-opened
returns-in-Err-clause-opened c = (c.in-Err.ensures.opened.0 ∙ c.rows.invariant.opened.0, c.in-Err.ensures.opened.1 ∙ c.rows.invariant.opened.1)

pub rows-preserved : goal.rows-preserved
rows-preserved c =
    let in_gone : c.rows.i < length c.rows.gone = omega arith in record {
      so_far =
          deletes-more c.args.self.now.limits c.args.self.now.splits c.args.parts.now c.args.serials.now c.rows.gone c.rows.i c.row_of-row.result c.in-Ok.went c.is_some.result c.flag.result c.args.self.now.parts c.rows.self.parts c.delete.new.self.parts
          in_gone c.row_of-row.ensures c.is_some.ensures c.flag.ensures c.rows.invariant.so_far (rw (c.rows.invariant.opened.1, c.rows.invariant.opened.0) at c.in-Ok.ensures.deletes);
      opened = (c.in-Ok.ensures.opened.0 ∙ c.rows.invariant.opened.0, c.in-Ok.ensures.opened.1 ∙ c.rows.invariant.opened.1);
    }

pub returns-clause-deletes : goal.returns-clause-deletes
returns-clause-deletes c = rw (c.whole.ensures, c.keep_reads.ensures) (went-whole _ _ (length c.args.parts.now) c.rows.i _ c.rows-test.false c.rows.auto.i-end c.rows.invariant.so_far)

pub returns-clause-opened : goal.returns-clause-opened
returns-clause-opened c = rw c.keep_reads.ensures c.rows.invariant.opened
