use Rattle.std.proofs.Common.{arith, refl, ◌∙◌}
use Rattle.std.specs.Prelude.{length}
use Rattle.crack_core.specs.Bulk.{none}
use Rattle.crack_core.proofs.BulkLaws.{went-whole}
use Rattle.crack_core.proofs.RunLaws.{runs-more, runs-stop}
use Rattle.crack_core.proofs.cores.Core.insert_many.Goals as goal

pub runs-init : goal.runs-init
runs-init c = record { so_far = none; within = omega arith; parts_long = c.requires.parts; serials_long = c.requires.serials; opened = (refl, refl) }

pub runs-preserved : goal.runs-preserved
runs-preserved c =
    let before = c.runs.invariant in
    let did = c.in-Ok.ensures in
    record {
      so_far = runs-more c.args.self.now.limits c.args.self.now.splits c.args.keys.now c.args.payloads.now c.runs.parts c.insert_next.new.parts c.runs.serials c.insert_next.new.serials c.runs.done c.in-Ok.count c.args.self.now.parts c.runs.self.parts c.insert_next.new.self.parts did.parts did.serials before.so_far (rw (before.opened.1, before.opened.0) at did.inserts);
      within = did.some.1;
      parts_long = did.parts.long ∙ before.parts_long;
      serials_long = did.serials.long ∙ before.serials_long;
      opened = (did.opened.0 ∙ before.opened.0, did.opened.1 ∙ before.opened.1);
    }

pub returns-in-Err-clause-inserts : goal.returns-in-Err-clause-inserts
returns-in-Err-clause-inserts c =
    let before = c.runs.invariant in
    let did = c.in-Err.ensures in
    rw c.stopped.ensures (runs-stop c.args.self.now.limits c.args.self.now.splits c.args.keys.now c.args.payloads.now c.runs.parts c.insert_next.new.parts c.runs.serials c.insert_next.new.serials c.runs.done c.in-Err.refusal c.args.self.now.parts c.runs.self.parts c.insert_next.new.self.parts c.runs-test.true did.parts did.serials before.so_far (rw (before.opened.1, before.opened.0) at did.refused))

pub returns-clause-inserts : goal.returns-clause-inserts
returns-clause-inserts c = rw c.whole.ensures (went-whole _ _ (length c.args.keys.now) c.runs.done _ (omega (arith, c.runs-test.false)) c.runs.invariant.within c.runs.invariant.so_far)
