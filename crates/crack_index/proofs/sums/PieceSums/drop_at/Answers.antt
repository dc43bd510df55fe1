use Rattle.std.proofs.Common.{◌≡◌, arith}
use Rattle.crack_index.specs.Sums.{IsEnd}
use Rattle.crack_index.specs.Cuts.{dropped}
use Rattle.crack_index.specs.SumTrees.{entries_in_tree}
use Rattle.crack_index.proofs.Joining.{Rises-dropped, length-dropped}
use Rattle.crack_index.proofs.sums.PieceSums.drop_at.Goals as goal

pub invariant_of-self : goal.invariant_of-self
invariant_of-self c =
    let old = entries_in_tree c.self.inside.root in
    let there : IsEnd c.args.key old = rw (← c.self.view_is) at c.requires in
    let is : entries_in_tree c.remove.result ≡ dropped c.args.key old = rw c.take-root.ensures.value at c.remove.ensures.entries in
    record {
      rises = rw is (Rises-dropped c.args.key old c.self.invariant.rises);
      counted = rw is (omega (arith, length-dropped c.args.key old (omega (arith, c.ranges.key.fits)) there, c.self.invariant.counted));
    }
