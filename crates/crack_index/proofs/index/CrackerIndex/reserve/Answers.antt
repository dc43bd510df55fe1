use Rattle.std.proofs.Common.{arith}
use Rattle.crack_index.proofs.index.CrackerIndex.reserve.Goals as goal

pub invariant_of-self : goal.invariant_of-self
invariant_of-self c = record {
  rising = c.self.invariant.rising;
  counted = c.self.invariant.counted;
  few = omega (arith, c.fill.ensures.most, c.self.invariant.few);
}
