use Rattle.std.proofs.Common.{◌+◌, arith, rules}
use Rattle.std.specs.Int.{w128}
use Rattle.std.proofs.lemmas.Int.{to_z-of_z}
use Rattle.crack_index.specs.SumTrees.{entries_in_tree}
use Rattle.crack_index.specs.SumKeeps.{levels_of}
use Rattle.crack_index.proofs.SumSides.{tall-over}
use Rattle.crack_index.proofs.sum_tree.with_children.Goals as goal

pub invariant_of-t-17 : goal.invariant_of-t-17
invariant_of-t-17 c =
    let total = to_z-of_z w128 c.total_over-total.result (search rules) in
    let sum = to_z-of_z w128 c.args.entry.1 (search rules) in
    record {
      high = omega (arith, c.max-height.ensures, c.height.ensures.value, c.height-2.ensures.value);
      even = c.requires.even;
      tall = tall-over (entries_in_tree c.args.left) c.args.entry (entries_in_tree c.args.right) (levels_of c.args.left) (levels_of c.args.right) (c.max-height.result + 1) c.height.ensures.tall c.height-2.ensures.tall c.requires.even (omega (arith, c.max-height.ensures, c.height.ensures.value, c.height-2.ensures.value));
      summed = rw total (rw sum at (c.total_over-total.ensures c.args.entry.0));
    }
