use Rattle.crack_pending.proofs.Members.{Has-zeros}
use Rattle.crack_pending.proofs.bits.BitSet.clear.Goals as goal

pub returns-clause-none : goal.returns-clause-none
returns-clause-none c = λ number. rw (c.fill.ensures.items (λ y e. e)) (Has-zeros _ number)
