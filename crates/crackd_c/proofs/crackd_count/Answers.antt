use Rattle.std.proofs.Common.{rules}
use Rattle.std.specs.Prelude.{Err}
use Rattle.crackd_c.proofs.crackd_count.Goals as goal

pub returns-in-Err : goal.returns-in-Err
returns-in-Err c = record { counts = (search rules, λ is_open. rw (← c.policy_of.ensures, c.in-Some.is) (search rules, (Err c.in-Err.refusal, search rules, search rules))) }
