use Rattle.std.proofs.Common.{arith}
use Rattle.crack_table.proofs.Partitions.{one_more, are_parts, are_numbered, are_listed}
use Rattle.crack_table.proofs.gathering.first_strange.Goals as goal

pub parts-preserved : goal.parts-preserved
parts-preserved g c = one_more c.args.splits.now c.args.limits c.args.workers c.args.is_audited c.args.parts.now.items c.parts.place c.part-item.result (omega arith) (rw c.deref-part-items.ensures.value at c.part-item.is) (c.is_tables_at.ensures.0 c.if-not-is_tables_at.false) c.parts.invariant

pub returns-clause-none : goal.returns-clause-none
returns-clause-none g c = (are_parts c.args.splits.now c.args.limits c.args.workers c.args.is_audited c.args.parts.now.items c.parts.place c.requires.count c.requires.sound (omega arith) c.parts.invariant, are_numbered c.args.splits.now c.args.limits c.args.workers c.args.is_audited c.args.parts.now.items c.parts.place (omega arith) c.parts.invariant)

pub returns-clause-listed : goal.returns-clause-listed
returns-clause-listed g c = are_listed c.args.splits.now c.args.limits c.args.workers c.args.is_audited c.args.parts.now.items c.parts.place (omega arith) c.parts.invariant
