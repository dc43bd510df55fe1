use Rattle.std.proofs.Common.{◌≡◌, ◌∷◌, ◌++◌, sym, ap, ◌∙◌}
use Rattle.crack_index.specs.Marks.{first_after}
use Rattle.crack_index.specs.Trees.{Grown, marks_in_tree}
use Rattle.crack_index.proofs.Sides.{or_else-found, first_after-left, first_after-right}
use Rattle.crack_index.proofs.tree.first_after.Goals as goal

pub down-preserved-then-mark-place : goal.down-preserved-then-mark-place
down-preserved-then-mark-place c =
    let whole : marks_in_tree c.deref-in-Some.inside.left ++ c.deref-in-Some.inside.mark ∷ marks_in_tree c.deref-in-Some.inside.right ≡ marks_in_tree c.down.here.now = ap (λ (g : Grown). g.marks) (c.deref-in-Some.view_is ∙ c.deref.ensures) ∙ sym (ap marks_in_tree c.in-Some.is) in
    rw (← whole, first_after-right c.args.place (marks_in_tree c.deref-in-Some.inside.left) c.deref-in-Some.inside.mark (marks_in_tree c.deref-in-Some.inside.right) c.deref-in-Some.invariant.rising c.if-mark-place.true) at c.down.invariant

pub down-preserved : goal.down-preserved
down-preserved c =
    let whole : marks_in_tree c.deref-in-Some.inside.left ++ c.deref-in-Some.inside.mark ∷ marks_in_tree c.deref-in-Some.inside.right ≡ marks_in_tree c.down.here.now = ap (λ (g : Grown). g.marks) (c.deref-in-Some.view_is ∙ c.deref.ensures) ∙ sym (ap marks_in_tree c.in-Some.is) in
    sym (or_else-found (first_after c.args.place (marks_in_tree c.deref-in-Some.inside.left)) c.deref-in-Some.inside.mark c.down.found) ∙ (rw (← whole, first_after-left c.args.place (marks_in_tree c.deref-in-Some.inside.left) c.deref-in-Some.inside.mark (marks_in_tree c.deref-in-Some.inside.right) c.if-mark-place.false) at c.down.invariant)
