use Rattle.std.proofs.Common.{sym}
use Rattle.std.proofs.Math.Seq.{take-append_seam}
use Rattle.crack_column.proofs.column.CrackerColumn.pop.Goals as goal

pub returns-in-Some-clause-known : goal.returns-in-Some-clause-known
returns-in-Some-clause-known c =
    rw (c.in-Some.ensures.known, ← c.pop_remembered.ensures.beside) (sym (take-append_seam c.pop_remembered.new.self.remembered _))
