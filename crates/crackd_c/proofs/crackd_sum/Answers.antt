use Rattle.std.proofs.Common.{rules}
use Rattle.std.specs.Prelude.{Err}
use Rattle.crackd_c.proofs.crackd_sum.Goals as goal

pub returns-in-Err : goal.returns-in-Err
returns-in-Err c = record { sums = (search rules, λ is_open. rw (← c.policy_of.ensures, c.in-Some.is) (search rules, (Err c.in-Err.refusal, search rules, search rules))) }
