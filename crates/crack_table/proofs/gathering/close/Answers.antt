use Rattle.std.proofs.Common.{sym, subst, List}
use Rattle.crack_witness.specs.Witnesses.{WitnessedState}
use Rattle.crack_table.specs.Gather.{AreGathered}
use Rattle.crack_table.proofs.gathering.close.Goals as goal

pub returns-in-Ok-clause-gathered : goal.returns-in-Ok-clause-gathered
returns-in-Ok-clause-gathered g c = subst (λ (parts : List WitnessedState). AreGathered g.J.Naming.owner c.args.splits.now c.args.limits c.args.count c.args.workers.now.items parts) (sym c.in-Ok.ensures.same) c.in-Ok.ensures.gathered
