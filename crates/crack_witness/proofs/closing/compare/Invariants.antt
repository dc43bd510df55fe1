use Rattle.std.proofs.Common.{◌≡◌, take}
use Rattle.std.specs.Prelude.{All}
use Rattle.crack_witness.specs.Witnesses.{WorkerState, WitnessedState, HasSeen}
use Rattle.crack_witness.proofs.closing.compare.Given as goal

abbrev pub invariant-parts : goal.invariant-parts
invariant-parts g l = record {
  same : l.parts.items ≡ l.initial.parts.items;
  agree : All (λ (w : WitnessedState). All (λ (a : WorkerState). HasSeen g.J.Naming.owner a w) l.workers.items) (take l.place l.initial.parts.items);
}
