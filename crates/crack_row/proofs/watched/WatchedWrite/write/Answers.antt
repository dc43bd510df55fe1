use Rattle.std.proofs.Common.{rules}
use Rattle.crack_row.proofs.watched.WatchedWrite.write.Goals as goal

pub returns-else-took_none-clause-err : goal.returns-else-took_none-clause-err
returns-else-took_none-clause-err g c = search rules

pub returns-else-took_none-clause-none : goal.returns-else-took_none-clause-none
returns-else-took_none-clause-none g c = search rules

pub returns-else-took_none-clause-empty : goal.returns-else-took_none-clause-empty
returns-else-took_none-clause-empty g c = search rules
