use Rattle.std.proofs.Common.{rules}
use Rattle.crack_row.proofs.watched.WatchedRead.read.Goals as goal

pub returns-then-is_err-clause-err : goal.returns-then-is_err-clause-err
returns-then-is_err-clause-err g c = search rules

pub returns-then-is_err-clause-reads : goal.returns-then-is_err-clause-reads
returns-then-is_err-clause-reads g c = search rules

pub returns-else-is_err-clause-reads : goal.returns-else-is_err-clause-reads
returns-else-is_err-clause-reads g c = search rules
