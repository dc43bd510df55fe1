use Rattle.crack_column.proofs.DrainLaws.{IsDraining}
use Rattle.crack_column.proofs.column.CrackerColumn.drain.Given as goal

abbrev pub invariant-doomed : goal.invariant-doomed
invariant-doomed l = IsDraining l.low l.high l.doomed l.first l.from l.to l.initial.self l.self l.start l.end l.pulled l.i
