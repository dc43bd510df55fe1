use Rattle.std.proofs.Common.{◌≡◌, ◌∷◌, ◌++◌, sym, ap, ◌∙◌}
use Rattle.crack_index.specs.Marks.{next_mark}
use Rattle.crack_index.specs.Trees.{Grown, marks_in_tree}
use Rattle.crack_index.proofs.Sides.{or_else-found, next_mark-left, next_mark-right}
use Rattle.crack_index.proofs.tree.next_above.Goals as goal

pub down-preserved-then-number : goal.down-preserved-then-number
down-preserved-then-number c =
    let whole : marks_in_tree c.deref-in-Some.inside.left ++ c.deref-in-Some.inside.mark ∷ marks_in_tree c.deref-in-Some.inside.right ≡ marks_in_tree c.down.here.now = ap (λ (g : Grown). g.marks) (c.deref-in-Some.view_is ∙ c.deref.ensures) ∙ sym (ap marks_in_tree c.in-Some.is) in
    rw (← whole, next_mark-right c.args.number (marks_in_tree c.deref-in-Some.inside.left) c.deref-in-Some.inside.mark (marks_in_tree c.deref-in-Some.inside.right) c.deref-in-Some.invariant.rising (rw c.number.ensures at c.if-number.true)) at c.down.invariant

pub down-preserved : goal.down-preserved
down-preserved c =
    let whole : marks_in_tree c.deref-in-Some.inside.left ++ c.deref-in-Some.inside.mark ∷ marks_in_tree c.deref-in-Some.inside.right ≡ marks_in_tree c.down.here.now = ap (λ (g : Grown). g.marks) (c.deref-in-Some.view_is ∙ c.deref.ensures) ∙ sym (ap marks_in_tree c.in-Some.is) in
    sym (or_else-found (next_mark c.args.number (marks_in_tree c.deref-in-Some.inside.left)) c.deref-in-Some.inside.mark c.down.found) ∙ (rw (← whole, next_mark-left c.args.number (marks_in_tree c.deref-in-Some.inside.left) c.deref-in-Some.inside.mark (marks_in_tree c.deref-in-Some.inside.right) (rw c.number.ensures at c.if-number.false)) at c.down.invariant)
