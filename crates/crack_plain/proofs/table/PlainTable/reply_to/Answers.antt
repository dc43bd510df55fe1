use Rattle.std.proofs.Common.{rules}
use Rattle.crack_plain.proofs.table.PlainTable.reply_to.Goals as goal

pub returns-in-Insert-clause-reply : goal.returns-in-Insert-clause-reply
returns-in-Insert-clause-reply c = search rules

pub returns-in-Insert-clause-err : goal.returns-in-Insert-clause-err
returns-in-Insert-clause-err c = search rules

pub returns-in-Insert-clause-spare : goal.returns-in-Insert-clause-spare
returns-in-Insert-clause-spare c = search rules

pub returns-in-Count-clause-reply : goal.returns-in-Count-clause-reply
returns-in-Count-clause-reply c = search rules

pub returns-in-Count-clause-err : goal.returns-in-Count-clause-err
returns-in-Count-clause-err c = search rules

pub returns-in-Count-clause-spare : goal.returns-in-Count-clause-spare
returns-in-Count-clause-spare c = search rules

pub returns-in-Sum-clause-reply : goal.returns-in-Sum-clause-reply
returns-in-Sum-clause-reply c = search rules

pub returns-in-Sum-clause-err : goal.returns-in-Sum-clause-err
returns-in-Sum-clause-err c = search rules

pub returns-in-Sum-clause-spare : goal.returns-in-Sum-clause-spare
returns-in-Sum-clause-spare c = search rules
