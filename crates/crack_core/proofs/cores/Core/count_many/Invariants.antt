use Rattle.std.specs.Prelude.{◌≡◌}
use Rattle.crack_core.specs.Bulk.{Answered, CountsAt}
use Rattle.crack_core.proofs.cores.Core.count_many.Given as goal

abbrev pub invariant-each : goal.invariant-each
invariant-each l = record {
  so_far : Answered (CountsAt l.initial.self.limits l.initial.self.splits l.policy l.firsts l.lasts l.counts) l.initial.self.parts l.i l.self.parts;
  opened : (l.self.splits ≡ l.initial.self.splits) × (l.self.limits ≡ l.initial.self.limits);
}
