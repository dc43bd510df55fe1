use Rattle.std.proofs.Common.{leb, rules, ◌-◌}
use Rattle.std.proofs.lemmas.List.Sorted.{IsPartitionPoint-from_clause, IsPartitionedBy-leb}
use Rattle.crack_row.specs.declared.Bound.{Bound}
use Rattle.crack_core.proofs.RouteLaws.{sorted-rising, count-point}
use Rattle.crack_core.proofs.routes.splits_below.Goals as goal

pub returns-clause-value : goal.returns-clause-value
returns-clause-value c =
    let test = λ (b : Bound). leb b.0 (c.args.bound.0 - 1) in
    let parted = IsPartitionedBy-leb (λ (b : Bound). b.0) c.args.splits.now (c.args.bound.0 - 1) (sorted-rising 0 c.args.splits.now c.requires.splits.rising) in
    let point = IsPartitionPoint-from_clause test _ _ c.partition_point.ensures.partitioned parted (λ a r q k. search rules) in
    count-point test c.args.splits.now c.partition_point.result c.partition_point.ensures.bound point.0 point.1
