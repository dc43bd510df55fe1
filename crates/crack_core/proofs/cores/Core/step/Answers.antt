use Rattle.std.proofs.Common.{◌≡◌, length, arith}
use Rattle.crack_core.proofs.StepLaws.{come_back}
use Rattle.crack_core.proofs.cores.Core.step.Goals as goal

pub invariant_of-self : goal.invariant_of-self
invariant_of-self c =
    let are = (rw c.deref_mut.ensures.value at (c.ask_at.ensures.parts c.self.inside.splits.items c.self.inside.limits)) c.self.invariant.parts in
    let long : length c.ask_at.new.partitions ≡ c.self.inside.partitions.len = omega (arith, are.count, c.self.invariant.parts.count, c.self.inside.partitions.ok.0) in
    record {
      splits = c.self.invariant.splits;
      limited = c.self.invariant.limited;
      parts = rw (come_back c.self.inside.partitions.items c.ask_at.new.partitions c.self.inside.partitions.len long) are;
    }

pub returns-clause-outcome : goal.returns-clause-outcome
returns-clause-outcome c = rw (← c.self.view_is) ((rw c.deref_mut.ensures.value at (c.ask_at.ensures.outcome c.self.inside.splits.items c.self.inside.limits)) c.self.invariant.parts)

pub returns-clause-store : goal.returns-clause-store
returns-clause-store c =
    let are = (rw c.deref_mut.ensures.value at (c.ask_at.ensures.parts c.self.inside.splits.items c.self.inside.limits)) c.self.invariant.parts in
    let long : length c.ask_at.new.partitions ≡ c.self.inside.partitions.len = omega (arith, are.count, c.self.invariant.parts.count, c.self.inside.partitions.ok.0) in
    rw (← c.self.view_is, come_back c.self.inside.partitions.items c.ask_at.new.partitions c.self.inside.partitions.len long) (rw c.deref_mut.ensures.value at c.ask_at.ensures.store)

pub returns-clause-spared : goal.returns-clause-spared
returns-clause-spared c =
    let are = (rw c.deref_mut.ensures.value at (c.ask_at.ensures.parts c.self.inside.splits.items c.self.inside.limits)) c.self.invariant.parts in
    let long : length c.ask_at.new.partitions ≡ c.self.inside.partitions.len = omega (arith, are.count, c.self.invariant.parts.count, c.self.inside.partitions.ok.0) in
    rw (← c.self.view_is, come_back c.self.inside.partitions.items c.ask_at.new.partitions c.self.inside.partitions.len long) (rw c.deref_mut.ensures.value at c.ask_at.ensures.spared)

pub returns-clause-after : goal.returns-clause-after
returns-clause-after c =
    let are = (rw c.deref_mut.ensures.value at (c.ask_at.ensures.parts c.self.inside.splits.items c.self.inside.limits)) c.self.invariant.parts in
    let long : length c.ask_at.new.partitions ≡ c.self.inside.partitions.len = omega (arith, are.count, c.self.invariant.parts.count, c.self.inside.partitions.ok.0) in
    let made = (rw c.deref_mut.ensures.value at (c.ask_at.ensures.after c.self.inside.splits.items c.self.inside.limits)) c.self.invariant.parts in
    rw (← c.self.view_is, come_back c.self.inside.partitions.items c.ask_at.new.partitions c.self.inside.partitions.len long) made
