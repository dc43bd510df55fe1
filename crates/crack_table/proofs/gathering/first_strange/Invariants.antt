use Rattle.crack_table.proofs.Partitions.{AreUpTo}
use Rattle.crack_table.proofs.gathering.first_strange.Given as goal

abbrev pub invariant-parts : goal.invariant-parts
invariant-parts g l = AreUpTo l.splits l.limits l.workers l.is_audited l.parts.items l.place
