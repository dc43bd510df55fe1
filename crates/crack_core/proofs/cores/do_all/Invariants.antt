use Rattle.std.proofs.Common.{◌≡◌, ◌≤◌, List, length, take, vec_capacity}
use Rattle.crack_row.specs.declared.Bound.{Bound}
use Rattle.crack_row.specs.declared.limit.Limits.{Limits}
use Rattle.crack_core.specs.Opening.{AreParts}
use Rattle.crack_core.specs.Steps.{tables_of}
use Rattle.crack_core.specs.Jobs.{KeepsJobs, AreExpectedOutcomes, DoesAll}
use Rattle.crack_core.proofs.cores.do_all.Given as goal

abbrev pub invariant-jobs : goal.invariant-jobs
invariant-jobs l = record {
  room : length l.jobs ≤ vec_capacity l.results;
  count : length l.results.items ≡ l.job-index;
  replies : (splits : List Bound) (limits : Limits) → AreParts splits limits l.initial.partitions → AreExpectedOutcomes limits splits (tables_of l.initial.partitions) (take l.job-index l.jobs) l.results.items;
  kept : (splits : List Bound) (limits : Limits) → AreParts splits limits l.initial.partitions → KeepsJobs limits (tables_of l.initial.partitions) (take l.job-index l.jobs) l.results.items (tables_of l.partitions);
  stores : (splits : List Bound) (limits : Limits) → AreParts splits limits l.initial.partitions → DoesAll splits limits (take l.job-index l.jobs) l.results.items l.initial.partitions l.partitions;
  parts : (splits : List Bound) (limits : Limits) → AreParts splits limits l.initial.partitions → AreParts splits limits l.partitions;
}
