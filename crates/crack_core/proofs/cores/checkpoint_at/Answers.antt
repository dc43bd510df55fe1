use Rattle.std.proofs.Common.{◌<◌, length, get_or, set, arith, ap, ◌∙◌, Ok}
use Rattle.crack_part.specs.Parts.{Part}
use Rattle.crack_core.proofs.StepLaws.{AreParts-set}
use Rattle.crack_core.proofs.JobLaws.{checkpoint-at, tables-checkpointed, IsCheckpointedAt-set, KeepsJobs-checkpoint, accepted-checkpointed, opened-checkpoint}
use Rattle.crack_core.proofs.cores.checkpoint_at.Goals as goal

-- the partition as it was
abbrev asked : (c : goal.After-recall_invariant) → Part
asked c = get_or c.args.partitions.now c.args.part c.index-partitions-number.result

pub returns-clause-outcome : goal.returns-clause-outcome
returns-clause-outcome c =
    let within : c.args.part < length c.args.partitions.now = omega arith in
    ap Ok c.checkpoint-checkpointed.ensures.since ∙ checkpoint-at c.args.partitions.now c.args.part c.index-partitions-number.result within

pub returns-clause-after : goal.returns-clause-after
returns-clause-after c =
    let within : c.args.part < length c.args.partitions.now = omega arith in
    tables-checkpointed c.args.partitions.now c.args.part c.checkpoint-checkpointed.result c.checkpoint-checkpointed.new.self c.index-partitions-number.result within c.checkpoint-checkpointed.ensures.checkpointed

pub returns-clause-checkpoints : goal.returns-clause-checkpoints
returns-clause-checkpoints c =
    let within : c.args.part < length c.args.partitions.now = omega arith in
    IsCheckpointedAt-set c.args.partitions.now c.args.part c.checkpoint-checkpointed.new.self c.index-partitions-number.result within c.checkpoint-checkpointed.ensures.checkpointed

pub returns-clause-kept : goal.returns-clause-kept
returns-clause-kept c = λ limits.
    let within : c.args.part < length c.args.partitions.now = omega arith in
    KeepsJobs-checkpoint limits c.args.partitions.now (set c.args.partitions.now c.args.part c.checkpoint-checkpointed.new.self) c.args.part c.checkpoint-checkpointed.result
    (IsCheckpointedAt-set c.args.partitions.now c.args.part c.checkpoint-checkpointed.new.self c.index-partitions-number.result within c.checkpoint-checkpointed.ensures.checkpointed)

pub returns-clause-accepted : goal.returns-clause-accepted
returns-clause-accepted c =
    let within : c.args.part < length c.args.partitions.now = omega arith in
    accepted-checkpointed c.args.partitions.now c.args.part c.checkpoint-checkpointed.new.self c.index-partitions-number.result within c.checkpoint-checkpointed.ensures.checkpointed

pub returns-clause-parts : goal.returns-clause-parts
returns-clause-parts c = λ splits limits are.
    let within : c.args.part < length c.args.partitions.now = omega arith in
    let opened = opened-checkpoint (asked c) c.checkpoint-checkpointed.new.self c.checkpoint-checkpointed.ensures.checkpointed in
    AreParts-set splits limits c.args.partitions.now c.args.part c.checkpoint-checkpointed.new.self c.index-partitions-number.result within are opened.0 opened.1 c.recall_invariant.ensures
