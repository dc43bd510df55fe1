use Rattle.crack_part.proofs.SoundLemmas.{IsFaithful-placed}
use Rattle.crack_part.proofs.changes.insert.Goals as goal

pub returns-clause-faithful : goal.returns-clause-faithful
returns-clause-faithful c = λ plain faithful.
    IsFaithful-placed c.args.store.now c.insert.new.self c.args.next.now c.args.key c.args.payload plain c.requires.intact c.in_ok-insert.ensures.ok faithful
