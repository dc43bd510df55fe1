use Rattle.std.proofs.Common.{◌≡◌, ◌∙◌, rules}
use Rattle.std.specs.Int.{w128}
use Rattle.std.proofs.lemmas.Int.{to_z-of_z}
use Rattle.crack_index.specs.Cuts.{given}
use Rattle.crack_index.specs.SumTrees.{entries_in_tree}
use Rattle.crack_index.proofs.Pieces.{Rises-given}
use Rattle.crack_index.proofs.SumSides.{length-given}
use Rattle.crack_index.proofs.sums.PieceSums.give.Goals as goal

pub invariant_of-self : goal.invariant_of-self
invariant_of-self c =
    let old = entries_in_tree c.self.inside.root in
    let is : entries_in_tree c.give.new.link ≡ given c.args.key c.args.sum old = rw (to_z-of_z w128 c.args.sum (search rules)) at c.give.ensures.entries in
    record {
      rises = rw is (Rises-given c.args.key c.args.sum old c.self.invariant.rises);
      counted = rw is (length-given c.args.key c.args.sum old ∙ c.self.invariant.counted);
    }
