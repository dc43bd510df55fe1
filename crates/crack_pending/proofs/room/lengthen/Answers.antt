use Rattle.std.proofs.Common.{rules}
use Rattle.crack_pending.proofs.room.lengthen.Goals as goal

pub returns-clause-same : goal.returns-clause-same
returns-clause-same c = search rules

pub returns-clause-long : goal.returns-clause-long
returns-clause-long c = search rules

pub returns-clause-kept : goal.returns-clause-kept
returns-clause-kept c = search rules

pub returns-clause-unchanged : goal.returns-clause-unchanged
returns-clause-unchanged c = search rules

pub returns-clause-err : goal.returns-clause-err
returns-clause-err c = search rules
