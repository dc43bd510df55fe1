use Rattle.std.proofs.Common.{ap, inl, rules}
use Rattle.crack_arena.specs.Memories.{Memory}
use Rattle.crack_pending.proofs.list.PendingList.push.Goals as goal

pub returns-clause-after : goal.returns-clause-after
returns-clause-after g c = search rules

pub returns-clause-remembered : goal.returns-clause-remembered
returns-clause-remembered g c = λ cells r. c.push_remembered.ensures.remembered cells (inl (ap (λ (m : Memory). m.key) c.nothing.ensures)) r
