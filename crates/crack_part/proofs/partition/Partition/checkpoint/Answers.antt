use Rattle.crack_part.proofs.SoundLemmas.{IsSound-checkpointed}
use Rattle.crack_part.proofs.partition.Partition.checkpoint.Goals as goal

pub invariant_of-self : goal.invariant_of-self
invariant_of-self c = rw c.shrink_pending.ensures (record { sound = IsSound-checkpointed _ c.self.invariant.sound; knows = c.self.invariant.knows })
