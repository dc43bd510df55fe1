use Rattle.std.proofs.Common.{◌≡◌, ◌*◌, ◌≤◌, take}
use Rattle.crack_core.specs.Steps.{accepted_by}
use Rattle.crack_core.proofs.cores.Core.accepted.Given as goal

abbrev pub invariant-loop-partition : goal.invariant-loop-partition
invariant-loop-partition l = (l.accepted ≡ accepted_by (take l.partition-index l.partition-items)) × (l.accepted ≤ 1099511627776 * l.partition-index)
