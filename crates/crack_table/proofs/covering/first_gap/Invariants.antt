use Rattle.std.proofs.Common.{List, map}
use Rattle.crack_witness.specs.declared.receipt.Receipt.{Receipt}
use Rattle.crack_table.specs.Cover.{CoveredBelow}
use Rattle.crack_table.specs.Coverage.{IsCoverage}
use Rattle.crack_table.proofs.covering.first_gap.Given as goal

abbrev pub invariant-parts : goal.invariant-parts
invariant-parts l = (receipts : List Receipt) → IsCoverage (map (λ l. l.now) l.lists) l.states.items receipts → CoveredBelow (map (λ l. l.now) l.lists) receipts l.part
