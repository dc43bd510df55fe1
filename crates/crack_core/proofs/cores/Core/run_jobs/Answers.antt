use Rattle.std.proofs.Common.{◌≡◌, length, arith}
use Rattle.crack_core.proofs.StepLaws.{come_back}
use Rattle.crack_core.proofs.cores.Core.run_jobs.Goals as goal

pub invariant_of-self : goal.invariant_of-self
invariant_of-self c =
    let are = (rw c.deref_mut.ensures.value at (c.do_all.ensures.parts c.self.inside.splits.items c.self.inside.limits)) c.self.invariant.parts in
    let long : length c.do_all.new.partitions ≡ c.self.inside.partitions.len = omega (arith, are.count, c.self.invariant.parts.count, c.self.inside.partitions.ok.0) in
    record {
      splits = c.self.invariant.splits;
      limited = c.self.invariant.limited;
      parts = rw (come_back c.self.inside.partitions.items c.do_all.new.partitions c.self.inside.partitions.len long) are;
    }

pub returns-clause-replies : goal.returns-clause-replies
returns-clause-replies c = rw (← c.self.view_is) ((rw c.deref_mut.ensures.value at (c.do_all.ensures.replies c.self.inside.splits.items c.self.inside.limits)) c.self.invariant.parts)

pub returns-clause-stores : goal.returns-clause-stores
returns-clause-stores c =
    let are = (rw c.deref_mut.ensures.value at (c.do_all.ensures.parts c.self.inside.splits.items c.self.inside.limits)) c.self.invariant.parts in
    let long : length c.do_all.new.partitions ≡ c.self.inside.partitions.len = omega (arith, are.count, c.self.invariant.parts.count, c.self.inside.partitions.ok.0) in
    let made = (rw c.deref_mut.ensures.value at (c.do_all.ensures.stores c.self.inside.splits.items c.self.inside.limits)) c.self.invariant.parts in
    rw (← c.self.view_is, come_back c.self.inside.partitions.items c.do_all.new.partitions c.self.inside.partitions.len long) made

pub returns-clause-kept : goal.returns-clause-kept
returns-clause-kept c =
    let are = (rw c.deref_mut.ensures.value at (c.do_all.ensures.parts c.self.inside.splits.items c.self.inside.limits)) c.self.invariant.parts in
    let long : length c.do_all.new.partitions ≡ c.self.inside.partitions.len = omega (arith, are.count, c.self.invariant.parts.count, c.self.inside.partitions.ok.0) in
    let made = (rw c.deref_mut.ensures.value at (c.do_all.ensures.kept c.self.inside.splits.items c.self.inside.limits)) c.self.invariant.parts in
    rw (← c.self.view_is, come_back c.self.inside.partitions.items c.do_all.new.partitions c.self.inside.partitions.len long) made
