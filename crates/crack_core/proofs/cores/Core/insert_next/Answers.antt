use Rattle.std.proofs.Common.{arith, refl}
use Rattle.std.proofs.lemmas.Int.{ints, to_z-of_z}
use Rattle.std.proofs.lemmas.List.{take_rest}
use Rattle.crack_core.proofs.RunLaws.{answered-none, one-answered, one-denied, refused-at, run-numbered}
use Rattle.crack_core.proofs.cores.Core.insert_next.Goals as goal

pub returns-then-run-eq0-clause-inserts : goal.returns-then-run-eq0-clause-inserts
returns-then-run-eq0-clause-inserts c =
    let opened = c.in-Ok.ensures.opened in
    let same = answered-none _ c.args.self.now.parts c.insert_run.new.self.parts c.in-Ok.run'.count c.if-run-eq0.true c.in-Ok.ensures.runs in
    one-answered c.args.self.now.limits c.args.self.now.splits c.args.keys.now c.args.payloads.now c.insert_one.new.parts c.insert_one.new.serials c.args.from _ _ c.args.self.now.parts c.insert_run.new.self.parts c.insert_one.new.self.parts c.insert_one.result refl (grind (arith, ints, to_z-of_z)) same c.insert_one.ensures.one (rw (opened.1, opened.0) at c.insert_one.ensures.inserts)

pub returns-then-run-eq0-clause-refused : goal.returns-then-run-eq0-clause-refused
returns-then-run-eq0-clause-refused c =
    let opened = c.in-Ok.ensures.opened in
    let same = answered-none _ c.args.self.now.parts c.insert_run.new.self.parts c.in-Ok.run'.count c.if-run-eq0.true c.in-Ok.ensures.runs in
    one-denied c.args.self.now.limits c.args.self.now.splits c.args.keys.now c.args.payloads.now c.args.from _ _ c.args.self.now.parts c.insert_run.new.self.parts c.insert_one.new.self.parts c.insert_one.result refl (grind (arith, ints, to_z-of_z)) same (rw (opened.1, opened.0) at c.insert_one.ensures.refused)

pub returns-else-run-eq0-clause-inserts : goal.returns-else-run-eq0-clause-inserts
returns-else-run-eq0-clause-inserts c =
    let runs = rw (take_rest c.args.keys.now c.args.from, take_rest c.args.payloads.now c.args.from) at c.in-Ok.ensures.runs in
    run-numbered c.args.self.now.limits c.args.self.now.splits c.args.keys.now c.args.payloads.now c.number_rows.new.parts c.number_rows.new.serials c.args.from c.in-Ok.run'.part c.in-Ok.run'.first c.in-Ok.run'.count c.args.self.now.parts c.insert_run.new.self.parts c.number_rows.ensures.parts c.number_rows.ensures.serials runs

pub returns-in-Err-clause-refused : goal.returns-in-Err-clause-refused
returns-in-Err-clause-refused c =
    let refused = rw (take_rest c.args.keys.now c.args.from, take_rest c.args.payloads.now c.args.from) at c.in-Err.ensures.refused in
    refused-at c.args.self.now.limits c.args.self.now.splits c.args.keys.now c.args.payloads.now c.args.from c.in-Err.refusal c.args.self.now.parts c.insert_run.new.self.parts refused
