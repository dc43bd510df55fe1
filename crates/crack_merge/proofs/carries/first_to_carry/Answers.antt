use Rattle.crack_merge.specs.Merges.{begins}
use Rattle.crack_merge.proofs.carries.first_to_carry.Goals as goal

pub returns-in_default-clause-carried : goal.returns-in_default-clause-carried
returns-in_default-clause-carried c = record { from = 0; carries = begins; none = c.in_default.ensures }
