use Rattle.std.proofs.Common.{rules}
use Rattle.crack_row.proofs.watched.Watched.new.Goals as goal

pub returns-clause-failed : goal.returns-clause-failed
returns-clause-failed g c = search rules

pub returns-clause-reads : goal.returns-clause-reads
returns-clause-reads g c = search rules
