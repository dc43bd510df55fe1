use Rattle.std.proofs.Common.{◌<◌, length, ap, sym, subst, arith}
use Rattle.std.specs.Prelude.{OnOk, OnErr}
use Rattle.std.proofs.lemmas.Result.{on_ok_weaker}
use Rattle.crack_row.specs.Ranges.{Range}
use Rattle.crack_row.specs.declared.command.Policy.TheVariants.{Complete}
use Rattle.crack_part.specs.Parts.{CracksAndMerges, StopsAt}
use Rattle.crack_part.proofs.ClearLaws.{filled, has-free}
use Rattle.crack_part.proofs.PartLaws.{KnowsPart-cleared}
use Rattle.crack_part.proofs.partition.Partition.clear.Goals as goal

pub crack_and_merge-requires-clause-filled : goal.crack_and_merge-requires-clause-filled
crack_and_merge-requires-clause-filled c =
    rw (← c.self.invariant.sound.ends) (filled c.self.inside.store c.self.invariant.sound.intact (rw (← c.self.view_is) at c.requires.waits))

pub crack_and_merge-requires-clause-low : goal.crack_and_merge-requires-clause-low
crack_and_merge-requires-clause-low c = omega (arith, ap (λ (r : Range). r.low) c.self.invariant.sound.ends)

pub crack_and_merge-requires-clause-high : goal.crack_and_merge-requires-clause-high
crack_and_merge-requires-clause-high c = omega (arith, ap (λ (r : Range). r.high) c.self.invariant.sound.ends)

pub invariant_of-self : goal.invariant_of-self
invariant_of-self c =
    KnowsPart-cleared c.self.inside.known _ c.crack_and_merge.new.store c.crack_and_merge.result c.self.invariant.sound c.crack_and_merge.ensures.settled c.crack_and_merge.ensures.stopped c.self.invariant.knows

pub returns-clause-cleared : goal.returns-clause-cleared
returns-clause-cleared c =
    rw (← c.self.view_is) (subst (λ (keys : Range). OnOk c.crack_and_merge.result (CracksAndMerges Complete c.self.inside.store c.crack_and_merge.new.store keys)) (sym c.self.invariant.sound.ends) c.crack_and_merge.ensures.settled)

pub returns-clause-stopped : goal.returns-clause-stopped
returns-clause-stopped c =
    rw (← c.self.view_is) (subst (λ (keys : Range). OnErr c.crack_and_merge.result (StopsAt Complete c.self.inside.store c.crack_and_merge.new.store keys)) (sym c.self.invariant.sound.ends) c.crack_and_merge.ensures.stopped)

pub returns-clause-free : goal.returns-clause-free
returns-clause-free c =
    let old = c.self.inside.store in
    let new = c.crack_and_merge.new.store in
    let waits : 0 < length old.pending_out = rw (← c.self.view_is) at c.requires.waits in
    let cleared = subst (λ (keys : Range). OnOk c.crack_and_merge.result (CracksAndMerges Complete old new keys)) (sym c.self.invariant.sound.ends) c.crack_and_merge.ensures.settled in
    on_ok_weaker c.crack_and_merge.result (has-free old new c.self.invariant.sound.intact waits) cleared
