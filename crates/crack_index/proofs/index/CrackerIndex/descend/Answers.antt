use Rattle.std.proofs.Common.{◌∙◌}
use Rattle.crack_index.proofs.index.CrackerIndex.descend.Goals as goal

pub invariant_of-self : goal.invariant_of-self
invariant_of-self g c = record {
  rising = c.descend.ensures.rising;
  counted = c.descend.ensures.long ∙ c.self.invariant.counted;
  few = c.self.invariant.few;
}
