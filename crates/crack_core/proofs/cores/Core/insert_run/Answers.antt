use Rattle.std.proofs.Common.{◌≡◌, length, arith}
use Rattle.crack_core.proofs.StepLaws.{come_back}
use Rattle.crack_core.proofs.cores.Core.insert_run.Goals as goal

pub invariant_of-self : goal.invariant_of-self
invariant_of-self c =
    let are = (rw c.deref_mut.ensures.value at (c.run_at.ensures.parts c.self.inside.splits.items c.self.inside.limits)) c.self.invariant.parts in
    let long : length c.run_at.new.partitions ≡ c.self.inside.partitions.len = omega (arith, are.count, c.self.invariant.parts.count, c.self.inside.partitions.ok.0) in
    record {
      splits = c.self.invariant.splits;
      limited = c.self.invariant.limited;
      parts = rw (come_back c.self.inside.partitions.items c.run_at.new.partitions c.self.inside.partitions.len long) are;
    }

pub returns-clause-refused : goal.returns-clause-refused
returns-clause-refused c =
    let are = (rw c.deref_mut.ensures.value at (c.run_at.ensures.parts c.self.inside.splits.items c.self.inside.limits)) c.self.invariant.parts in
    let long : length c.run_at.new.partitions ≡ c.self.inside.partitions.len = omega (arith, are.count, c.self.invariant.parts.count, c.self.inside.partitions.ok.0) in
    let there = rw (← c.self.view_is, c.from_number.ensures) at c.route-part.ensures in
    let refused = (rw c.deref_mut.ensures.value at (c.run_at.ensures.refused c.self.inside.splits.items c.self.inside.limits)) c.self.invariant.parts there in
    rw (← c.self.view_is, come_back c.self.inside.partitions.items c.run_at.new.partitions c.self.inside.partitions.len long) refused
