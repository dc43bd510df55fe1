use Rattle.std.proofs.Common.{rules, arith}
use Rattle.crack_row.specs.Limits.{AreLimits}
use Rattle.crack_part.proofs.SoundLemmas.{IsSound-opened}
use Rattle.crack_part.proofs.partition.Partition.open_with.Goals as goal

pub invariant_of-result : goal.invariant_of-result
invariant_of-result c =
    let limited : AreLimits c.args.limits = search rules in
    rw c.new-2.ensures (record { sound = IsSound-opened c.args.keys c.args.limits c.new-store.result c.new-store.ensures limited c.recall_invariant.ensures; knows = record { past = omega arith; right = tt } })
