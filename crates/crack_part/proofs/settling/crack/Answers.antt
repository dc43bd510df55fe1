use Rattle.std.proofs.Common.{rules}
use Rattle.crack_part.proofs.settling.crack.Goals as goal

pub returns-in-Auto-clause-cracked : goal.returns-in-Auto-clause-cracked
returns-in-Auto-clause-cracked c = search rules

pub returns-in-Complete-clause-cracked : goal.returns-in-Complete-clause-cracked
returns-in-Complete-clause-cracked c = search rules
