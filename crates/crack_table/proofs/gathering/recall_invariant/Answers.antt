use Rattle.std.proofs.Common.{arith}
use Rattle.std.proofs.lemmas.List.Elements.{All-more}
use Rattle.crack_part.specs.Parts.{IsSound}
use Rattle.crack_witness.specs.Witnesses.{WitnessedState, IsWhole}
use Rattle.crack_witness.proofs.Lists.{all_of}
use Rattle.crack_table.proofs.gathering.recall_invariant.Goals as goal

pub parts-preserved : goal.parts-preserved
parts-preserved g c =
    let value = c.deref-part-items.ensures.value in
    let parts = c.args.parts.now.items in
    let at = rw value at c.part-item.is in record {
      whole = All-more (λ (w : WitnessedState). IsWhole g.J.Naming.owner w) parts c.parts.part-index c.part-item.result (rw value at c.parts-test.true) c.parts.invariant.whole (rw (← at) c.recall_invariant.ensures.whole);
      sound = All-more (λ (w : WitnessedState). IsSound w.held) parts c.parts.part-index c.part-item.result (rw value at c.parts-test.true) c.parts.invariant.sound (rw (← at) c.recall_invariant.ensures.sound);
    }

pub returns-clause-whole : goal.returns-clause-whole
returns-clause-whole g c = all_of (λ (w : WitnessedState). IsWhole g.J.Naming.owner w) c.args.parts.now.items c.parts.part-index (omega arith) c.parts.invariant.whole

pub returns-clause-sound : goal.returns-clause-sound
returns-clause-sound g c = all_of (λ (w : WitnessedState). IsSound w.held) c.args.parts.now.items c.parts.part-index (omega arith) c.parts.invariant.sound
