use Rattle.std.proofs.Common.{rules}
use Rattle.std.specs.Prelude.{Err}
use Rattle.crackd_c.proofs.crackd_checkpoint.Goals as goal

pub returns-in-Err : goal.returns-in-Err
returns-in-Err c = record { checkpoints = (search rules, λ is_open. (search rules, (Err c.in-Err.refusal, search rules, search rules, search rules, search rules, search rules))) }
