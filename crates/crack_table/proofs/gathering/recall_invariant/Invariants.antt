use Rattle.std.proofs.Common.{take}
use Rattle.std.specs.Prelude.{All}
use Rattle.crack_part.specs.Parts.{IsSound}
use Rattle.crack_witness.specs.Witnesses.{WitnessedState, IsWhole}
use Rattle.crack_table.proofs.gathering.recall_invariant.Given as goal

abbrev pub invariant-parts : goal.invariant-parts
invariant-parts g l = record {
  whole : All (λ (w : WitnessedState). IsWhole g.J.Naming.owner w) (take l.part-index l.parts.items);
  sound : All (λ (w : WitnessedState). IsSound w.held) (take l.part-index l.parts.items);
}
