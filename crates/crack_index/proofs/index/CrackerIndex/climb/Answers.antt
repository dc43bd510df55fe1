use Rattle.std.proofs.Common.{◌∙◌}
use Rattle.crack_index.proofs.index.CrackerIndex.climb.Goals as goal

pub invariant_of-self : goal.invariant_of-self
invariant_of-self g c = record {
  rising = c.climb.ensures.rising;
  counted = c.climb.ensures.long ∙ c.self.invariant.counted;
  few = c.self.invariant.few;
}
