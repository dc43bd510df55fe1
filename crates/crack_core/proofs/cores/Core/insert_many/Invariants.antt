use Rattle.std.specs.Prelude.{◌≡◌, ◌-◌, ◌≤◌, length}
use Rattle.crack_core.specs.Bulk.{Answered, InsertsAt}
use Rattle.crack_core.proofs.cores.Core.insert_many.Given as goal

abbrev pub invariant-runs : goal.invariant-runs
invariant-runs l = record {
  so_far : Answered (InsertsAt l.initial.self.limits l.initial.self.splits l.keys l.payloads l.parts l.serials) l.initial.self.parts l.done l.self.parts;
  within : l.done ≤ length l.keys;
  parts_long : length l.parts ≡ length l.keys;
  serials_long : length l.serials ≡ length l.keys;
  opened : (l.self.splits ≡ l.initial.self.splits) × (l.self.limits ≡ l.initial.self.limits);
}

abbrev pub decreases-runs : goal.decreases-runs
decreases-runs l = length l.keys - l.done
