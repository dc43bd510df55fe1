use Rattle.std.proofs.Common.{rules}
use Rattle.crack_plain.proofs.list.count_in.Goals as goal

pub returns-clause-is : goal.returns-clause-is
returns-clause-is c = search rules

pub returns-clause-small : goal.returns-clause-small
returns-clause-small c = search rules
