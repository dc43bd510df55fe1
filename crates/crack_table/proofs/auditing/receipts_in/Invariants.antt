use Rattle.std.proofs.Common.{◌≡◌, take}
use Rattle.std.specs.List.{flat_map}
use Rattle.crack_table.specs.Audits.{receipts_of}
use Rattle.crack_table.proofs.auditing.receipts_in.Given as goal

abbrev pub invariant-workers : goal.invariant-workers
invariant-workers g l = flat_map (λ r. r.now) l.receipts.items ≡ receipts_of (take l.worker-index l.workers.items)
