use Rattle.std.proofs.Common.{◌≡◌, take}
use Rattle.std.specs.Prelude.{All}
use Rattle.crack_witness.specs.Witnesses.{WorkerState, HasSeen}
use Rattle.crack_witness.proofs.closing.first_difference.Given as goal

abbrev pub invariant-workers : goal.invariant-workers
invariant-workers g l = record {
  same : l.part ≡ l.initial.part;
  agree : All (λ (a : WorkerState). HasSeen g.J.Naming.owner a l.initial.part) (take l.worker-index l.workers.items);
}
