use Rattle.std.proofs.Common.{get_or, refl}
use Rattle.crack_core.proofs.RunLaws.{inserts-refused, run-opened, took-rows}
use Rattle.crack_core.proofs.StepLaws.{AreParts-set}
use Rattle.crack_core.proofs.runs.run_at.Goals as goal

pub returns-in-Ok-clause-runs : goal.returns-in-Ok-clause-runs
returns-in-Ok-clause-runs c = λ splits limits good are.
    (took-rows splits limits c.args.keys.now c.args.payloads.now c.args.part c.insertions-first.result c.args.partitions.now (get_or c.args.partitions.now c.args.part c.index-partitions-part.result) c.index-partitions-part.result c.in-Ok.count c.insert_run-inserted.new.self good are c.requires.there refl c.insertions-first.ensures c.in-Ok.ensures.inserts).answered

pub returns-in-Ok-clause-parts : goal.returns-in-Ok-clause-parts
returns-in-Ok-clause-parts c = λ splits limits are.
    let opened = run-opened c.args.keys.now c.args.payloads.now (get_or c.args.partitions.now c.args.part c.index-partitions-part.result) c.in-Ok.count c.insert_run-inserted.new.self c.in-Ok.ensures.inserts in
    AreParts-set splits limits c.args.partitions.now c.args.part c.insert_run-inserted.new.self c.index-partitions-part.result c.requires.there are opened.0 opened.1 c.recall_invariant.ensures

pub returns-in-Err-clause-refused : goal.returns-in-Err-clause-refused
returns-in-Err-clause-refused c = λ splits limits are there.
    inserts-refused splits limits c.args.keys.now c.args.payloads.now 0 c.args.part c.in-Err.refusal c.args.partitions.now c.insert_run-inserted.new.self c.index-partitions-part.result are c.requires.there there c.in-Err.ensures.refused

pub returns-in-Err-clause-parts : goal.returns-in-Err-clause-parts
returns-in-Err-clause-parts c = λ splits limits are.
    let opened = c.in-Err.ensures.refused.applies.opened in
    AreParts-set splits limits c.args.partitions.now c.args.part c.insert_run-inserted.new.self c.index-partitions-part.result c.requires.there are opened.0 opened.1 c.recall_invariant.ensures
