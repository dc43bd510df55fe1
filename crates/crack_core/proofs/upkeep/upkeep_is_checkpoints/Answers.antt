use Rattle.crack_core.proofs.UpkeepLaws.{kept-up}
use Rattle.crack_core.proofs.upkeep.upkeep_is_checkpoints.Goals as goal

pub returns : goal.returns
returns c = λ part jobs results table. kept-up c.args.core.now.limits part jobs results table
