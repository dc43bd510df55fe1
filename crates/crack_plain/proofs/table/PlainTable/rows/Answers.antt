use Rattle.std.proofs.Common.{rules}
use Rattle.crack_plain.proofs.table.PlainTable.rows.Goals as goal

pub returns-clause-value : goal.returns-clause-value
returns-clause-value c = search rules

pub returns-clause-numbered : goal.returns-clause-numbered
returns-clause-numbered c = search rules

pub returns-clause-bounded : goal.returns-clause-bounded
returns-clause-bounded c = search rules
