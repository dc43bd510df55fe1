use Rattle.std.proofs.Common.{arith, refl, ◌∙◌}
use Rattle.std.specs.Prelude.{◌≡◌, ◌<◌, pos, length, slice_index_or}
use Rattle.std.proofs.lemmas.Int.{ints}
use Rattle.crack_core.specs.Bulk.{none}
use Rattle.crack_core.proofs.BulkLaws.{went-whole, updates-more, updates-stop}
use Rattle.crack_core.proofs.cores.Core.update_many.Goals as goal

pub rows-init : goal.rows-init
rows-init c = record { so_far = none; opened = (refl, refl) }

pub returns-in-Err-clause-updates : goal.returns-in-Err-clause-updates
returns-in-Err-clause-updates c =
    let payload_is : c.from_number.result.0 ≡ slice_index_or c.args.payloads.now c.rows.i (pos 0) = omega (arith, ints, c.from_number.ensures) in
    rw c.stopped.ensures (updates-stop c.args.self.now.limits c.args.self.now.splits c.args.parts.now c.args.serials.now c.args.keys.now c.args.payloads.now c.rows.found c.rows.i c.row_of-row.result c.from_number-key.result c.from_number.result c.in-Err.refusal c.args.self.now.parts c.rows.self.parts c.update.new.self.parts
    c.rows-test.true c.row_of-row.ensures c.from_number-key.ensures payload_is c.rows.invariant.so_far (rw (c.rows.invariant.opened.1, c.rows.invariant.opened.0) at c.in-Err.ensures.updates))

pub returns-in-Err-clause-opened : goal.returns-in-Err-clause-opened
returns-in-Err-clause-opened c = (c.in-Err.ensures.opened.0 ∙ c.rows.invariant.opened.0, c.in-Err.ensures.opened.1 ∙ c.rows.invariant.opened.1)

pub rows-preserved : goal.rows-preserved
rows-preserved c =
    let in_found : c.rows.i < length c.rows.found = omega arith in
    let payload_is : c.from_number.result.0 ≡ slice_index_or c.args.payloads.now c.rows.i (pos 0) = omega (arith, ints, c.from_number.ensures) in record {
      so_far =
          updates-more c.args.self.now.limits c.args.self.now.splits c.args.parts.now c.args.serials.now c.args.keys.now c.args.payloads.now c.rows.found c.rows.i c.row_of-row.result c.from_number-key.result c.from_number.result c.in-Ok.is_there c.flag.result c.args.self.now.parts c.rows.self.parts c.update.new.self.parts
          in_found c.row_of-row.ensures c.from_number-key.ensures payload_is c.flag.ensures c.rows.invariant.so_far (rw (c.rows.invariant.opened.1, c.rows.invariant.opened.0) at c.in-Ok.ensures.updates);
      opened = (c.in-Ok.ensures.opened.0 ∙ c.rows.invariant.opened.0, c.in-Ok.ensures.opened.1 ∙ c.rows.invariant.opened.1);
    }

pub returns-clause-updates : goal.returns-clause-updates
returns-clause-updates c = rw (c.whole.ensures, c.keep_reads.ensures) (went-whole _ _ (length c.args.parts.now) c.rows.i _ c.rows-test.false c.rows.auto.i-end c.rows.invariant.so_far)

pub returns-clause-opened : goal.returns-clause-opened
returns-clause-opened c = rw c.keep_reads.ensures c.rows.invariant.opened
