use Rattle.std.proofs.Common.{◌≡◌, arith, rules}
use Rattle.std.specs.Int.{w128}
use Rattle.std.proofs.lemmas.Int.{to_z-of_z}
use Rattle.crack_index.specs.Cuts.{put}
use Rattle.crack_index.specs.SumTrees.{entries_in_tree}
use Rattle.crack_index.proofs.Pieces.{Rises-put, length-put}
use Rattle.crack_index.proofs.sums.PieceSums.put.Goals as goal

pub invariant_of-self : goal.invariant_of-self
invariant_of-self c =
    let old = entries_in_tree c.self.inside.root in
    let apart = rw (← c.self.view_is) at c.requires in
    let is : c.insert.result.value.entries ≡ put c.args.key c.args.sum old = rw (c.take-root.ensures.value, to_z-of_z w128 c.args.sum (search rules)) at c.insert.ensures.entries in
    record {
      rises = rw is (Rises-put c.args.key c.args.sum old (omega (arith, c.ranges.key.fits)) c.self.invariant.rises);
      counted = rw is (omega (arith, length-put c.args.key c.args.sum old apart, c.self.invariant.counted));
    }
