use Rattle.std.proofs.Common.{◌≡◌, ◌≤◌, List, length, map, take, vec_capacity}
use Rattle.crack_row.specs.declared.Bound.{Bound}
use Rattle.crack_row.specs.declared.limit.Limits.{Limits}
use Rattle.crack_core.specs.Opening.{AreParts}
use Rattle.crack_core.specs.Steps.{mapped, tables_of}
use Rattle.crack_core.specs.Jobs.{KeepsJobs, AreExpectedOutcomes, DoesAll}
use Rattle.crack_core.specs.declared.step.Job.TheVariants.{Perform}
use Rattle.crack_core.specs.declared.step.Done.TheVariants.{Replied}
use Rattle.crack_core.proofs.cores.run_all.Given as goal

abbrev pub invariant-steps : goal.invariant-steps
invariant-steps l = record {
  room : length l.steps ≤ vec_capacity l.results;
  count : length l.results.items ≡ l.step-index;
  replies : (splits : List Bound) (limits : Limits) → AreParts splits limits l.initial.partitions → AreExpectedOutcomes limits splits (tables_of l.initial.partitions) (map Perform (take l.step-index l.steps)) (map (mapped Replied) l.results.items);
  kept : (splits : List Bound) (limits : Limits) → AreParts splits limits l.initial.partitions → KeepsJobs limits (tables_of l.initial.partitions) (map Perform (take l.step-index l.steps)) (map (mapped Replied) l.results.items) (tables_of l.partitions);
  stores : (splits : List Bound) (limits : Limits) → AreParts splits limits l.initial.partitions → DoesAll splits limits (map Perform (take l.step-index l.steps)) (map (mapped Replied) l.results.items) l.initial.partitions l.partitions;
  parts : (splits : List Bound) (limits : Limits) → AreParts splits limits l.initial.partitions → AreParts splits limits l.partitions;
}
