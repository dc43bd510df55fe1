use Rattle.std.proofs.Common.{◌≡◌, ◌∷◌, ◌++◌, List, length, sym, ap, ◌∙◌, arith}
use Rattle.crack_index.specs.declared.mark.Mark.{Mark}
use Rattle.crack_index.specs.Marks.{Rising}
use Rattle.crack_index.specs.Keeps.{height_of}
use Rattle.crack_index.specs.Trees.{Grown, marks_in_tree}
use Rattle.crack_index.proofs.MarkLaws.{Rising-tail}
use Rattle.crack_index.proofs.Sides.{height_fits}
use Rattle.crack_index.proofs.tree.+take_first.Goals as goal

pub join-joined-requires-clause-rising : goal.join-joined-requires-clause-rising
join-joined-requires-clause-rising t c =
    let first = c.take_first-first.result in
    let rest = c.open-left.result in
    let left : marks_in_tree rest.left ≡ first.mark ∷ marks_in_tree first.rest = ap marks_in_tree c.in-Some.is ∙ c.take_first-first.ensures.marks in
    let rising : Rising (first.mark ∷ (marks_in_tree first.rest ++ rest.mark ∷ marks_in_tree rest.right)) = rw left at c.open-left.ensures.balanced.rising in
    Rising-tail first.mark (marks_in_tree first.rest ++ rest.mark ∷ marks_in_tree rest.right) rising

pub join-joined-requires-clause-fits : goal.join-joined-requires-clause-fits
join-joined-requires-clause-fits t c =
    let whole : c.args.node.value.marks ≡ marks_in_tree c.open-left.result.left ++ c.open-left.result.mark ∷ marks_in_tree c.open-left.result.right = ap (λ (g : Grown). g.marks) (sym c.deref_mut.ensures.value) ∙ c.open-left.ensures.marks in
    let long = ap (λ (xs : List Mark). length xs) whole in
    let balanced = c.open-left.ensures.balanced in
    omega (arith, height_fits _ _ balanced.tall (omega (arith, long, c.requires.few)), balanced.high, ap height_of c.in-Some.is, c.take_first-first.ensures.not_higher)
