use Rattle.std.proofs.Common.{◌≡◌, length, arith}
use Rattle.crack_core.proofs.StepLaws.{come_back}
use Rattle.crack_core.proofs.cores.Core.checkpoint.Goals as goal

pub invariant_of-self : goal.invariant_of-self
invariant_of-self c =
    let are = (rw c.deref_mut.ensures.value at (c.checkpoint_at.ensures.parts c.self.inside.splits.items c.self.inside.limits)) c.self.invariant.parts in
    let long : length c.checkpoint_at.new.partitions ≡ c.self.inside.partitions.len = omega (arith, are.count, c.self.invariant.parts.count, c.self.inside.partitions.ok.0) in
    record {
      splits = c.self.invariant.splits;
      limited = c.self.invariant.limited;
      parts = rw (come_back c.self.inside.partitions.items c.checkpoint_at.new.partitions c.self.inside.partitions.len long) are;
    }

pub returns-clause-checkpoints : goal.returns-clause-checkpoints
returns-clause-checkpoints c =
    let are = (rw c.deref_mut.ensures.value at (c.checkpoint_at.ensures.parts c.self.inside.splits.items c.self.inside.limits)) c.self.invariant.parts in
    let long : length c.checkpoint_at.new.partitions ≡ c.self.inside.partitions.len = omega (arith, are.count, c.self.invariant.parts.count, c.self.inside.partitions.ok.0) in
    rw (← c.self.view_is, come_back c.self.inside.partitions.items c.checkpoint_at.new.partitions c.self.inside.partitions.len long) (rw c.deref_mut.ensures.value at c.checkpoint_at.ensures.checkpoints)
