use Rattle.std.proofs.Common.{rules}
use Rattle.crack_plain.proofs.table.change_rows.Goals as goal

pub returns-in-Some-Remove-clause-changed : goal.returns-in-Some-Remove-clause-changed
returns-in-Some-Remove-clause-changed c = search rules

pub returns-in-Some-Remove-clause-same : goal.returns-in-Some-Remove-clause-same
returns-in-Some-Remove-clause-same c = search rules

pub returns-in-Some-Remove-clause-spare : goal.returns-in-Some-Remove-clause-spare
returns-in-Some-Remove-clause-spare c = search rules

pub returns-in-Some-Rewrite-clause-same : goal.returns-in-Some-Rewrite-clause-same
returns-in-Some-Rewrite-clause-same c = search rules

pub returns-in-Some-Rewrite-clause-spare : goal.returns-in-Some-Rewrite-clause-spare
returns-in-Some-Rewrite-clause-spare c = search rules

pub returns-in-None-clause-changed : goal.returns-in-None-clause-changed
returns-in-None-clause-changed c = search rules

pub returns-in-None-clause-same : goal.returns-in-None-clause-same
returns-in-None-clause-same c = search rules

pub returns-in-None-clause-spare : goal.returns-in-None-clause-spare
returns-in-None-clause-spare c = search rules
