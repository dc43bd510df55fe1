use Rattle.std.proofs.Common.{◌≡◌, ◌<◌, ◌^◌}
use Rattle.crack_table.specs.Gather.{missing_below}
use Rattle.crack_witness.specs.Witnesses.{WorkerState}
use Rattle.crack_table.proofs.gathering.missing_workers.Given as goal

abbrev pub invariant-numbers : goal.invariant-numbers
invariant-numbers g l = record {
  missing : l.missing ≡ missing_below (λ (a : WorkerState). a.worker) l.workers.items l.number;
  bit : l.bit ≡ 2 ^ l.number;
  small : l.missing < 2 ^ l.number;
}
