use Rattle.std.proofs.Common.{◌∙◌}
use Rattle.crack_part.proofs.RefusalLaws.{never-full, refused-early}
use Rattle.crack_part.proofs.partition.Partition.refusal.Goals as goal

pub returns-in-Err-clause-unlimited : goal.returns-in-Err-clause-unlimited
returns-in-Err-clause-unlimited c none length is = never-full c.args.self.now c.args.command.now length c.recall_invariant.ensures none (refused-early c.args.self.now c.args.command.now c.in-Err.refusal c.in-Err.ensures.err ∙ is)
