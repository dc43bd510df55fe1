use Rattle.std.proofs.Common.{◌≡◌, rules}
use Rattle.std.specs.Int.{w128}
use Rattle.std.proofs.lemmas.Int.{to_z-of_z}
use Rattle.crack_index.specs.Sums.{both}
use Rattle.crack_index.specs.SumTrees.{entries_in_tree}
use Rattle.crack_index.proofs.SumTotals.{IsTotal-over}
use Rattle.crack_index.proofs.sum_tree.total_over.Goals as goal

pub returns : goal.returns
returns c = λ start.
    let left = to_z-of_z w128 c.total.result (search rules) in
    let right = to_z-of_z w128 c.total-2.result (search rules) in
    let lower = to_z-of_z w128 c.whole.result (search rules) in
    let whole = to_z-of_z w128 c.whole-2.result (search rules) in
    let is : c.whole-2.result ≡ both (both c.total.result c.args.sum) c.total-2.result = rw (lower, right, c.whole.ensures, left, to_z-of_z w128 c.args.sum (search rules)) at c.whole-2.ensures in
    rw (whole, is) (IsTotal-over (entries_in_tree c.args.left.now) (entries_in_tree c.args.right.now) start c.total.result c.args.sum c.total-2.result c.total.ensures c.total-2.ensures)
