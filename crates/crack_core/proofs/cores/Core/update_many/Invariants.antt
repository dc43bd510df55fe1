use Rattle.std.specs.Prelude.{◌≡◌}
use Rattle.crack_core.specs.Bulk.{Answered, UpdatesAt}
use Rattle.crack_core.proofs.cores.Core.update_many.Given as goal

abbrev pub invariant-rows : goal.invariant-rows
invariant-rows l = record {
  so_far : Answered (UpdatesAt l.initial.self.limits l.initial.self.splits l.parts l.serials l.keys l.payloads l.found) l.initial.self.parts l.i l.self.parts;
  opened : (l.self.splits ≡ l.initial.self.splits) × (l.self.limits ≡ l.initial.self.limits);
}
