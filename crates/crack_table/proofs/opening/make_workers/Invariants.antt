use Rattle.crack_table.specs.Opening.{AreNewWorkers}
use Rattle.crack_table.proofs.opening.make_workers.Given as goal

abbrev pub invariant-numbers : goal.invariant-numbers
invariant-numbers g l = AreNewWorkers l.number l.parts l.is_audited l.workers.items
