use Rattle.std.proofs.Common.{◌≡◌, ◌∷◌, ◌++◌, refl, sym, ap, ◌∙◌, arith}
use Rattle.crack_index.specs.Marks.{lowered_at}
use Rattle.crack_index.specs.Steps.{one_down}
use Rattle.crack_index.specs.Trees.{Grown, marks_in_tree}
use Rattle.crack_index.proofs.Sides.{lowered_at-left, lowered_at-right, moved_both, IsBalanced-moved}
use Rattle.crack_index.proofs.MarkLaws.{Rising-lowered_at}
use Rattle.crack_index.proofs.MarkLemmas.{lowered_at_same}
use Rattle.crack_index.proofs.tree.+lower_at.Goals as goal

pub invariant_of-left : goal.invariant_of-left
invariant_of-left t c =
    let moved = sym (lowered_at-left c.args.place (marks_in_tree c.right.inside.left) c.right.inside.mark (marks_in_tree c.right.inside.right) c.right.invariant.rising c.if-place-mark.true) in
    IsBalanced-moved (lowered_at c.args.place) c.right.inside.left c.lower_at.new.link c.right.inside.mark c.right.inside.mark c.right.inside.right c.right.inside.right c.right.inside.height (Rising-lowered_at c.args.place _ c.right.invariant.rising) c.lower_at.ensures.height refl (rw c.lower_at.ensures.marks moved) c.right.invariant

pub invariant_of-mark : goal.invariant_of-mark
invariant_of-mark t c =
    let moved = sym (lowered_at-right c.args.place (marks_in_tree c.right.inside.left) c.right.inside.mark (marks_in_tree c.right.inside.right) c.right.invariant.rising c.if-mark-place.true) in
    IsBalanced-moved (lowered_at c.args.place) c.right.inside.left c.right.inside.left c.right.inside.mark c.right.inside.mark c.right.inside.right c.lower_at-then-mark-place.new.link c.right.inside.height (Rising-lowered_at c.args.place _ c.right.invariant.rising) refl c.lower_at-then-mark-place.ensures.height (rw c.lower_at-then-mark-place.ensures.marks moved) c.right.invariant

pub invariant_of-t-7 : goal.invariant_of-t-7
invariant_of-t-7 t c =
    let moved = sym (moved_both (lowered_at c.args.place) (marks_in_tree c.right.inside.left) c.right.inside.mark (one_down c.right.inside.mark) (marks_in_tree c.right.inside.right) (lowered_at_same c.args.place c.right.inside.mark (omega (arith, c.if-place-mark.false, c.if-mark-place.false)))) in
    IsBalanced-moved (lowered_at c.args.place) c.right.inside.left c.lower_at-else-mark-place.new.link c.right.inside.mark (one_down c.right.inside.mark) c.right.inside.right c.lower_at-else-mark-place-2.new.link c.right.inside.height (Rising-lowered_at c.args.place _ c.right.invariant.rising) c.lower_at-else-mark-place.ensures.height c.lower_at-else-mark-place-2.ensures.height (rw (c.lower_at-else-mark-place.ensures.marks, c.lower_at-else-mark-place-2.ensures.marks) moved) c.right.invariant

pub returns-then-place-mark-clause-marks : goal.returns-then-place-mark-clause-marks
returns-then-place-mark-clause-marks t c =
    let whole : marks_in_tree c.right.inside.left ++ c.right.inside.mark ∷ marks_in_tree c.right.inside.right ≡ marks_in_tree c.args.link.now = ap (λ (g : Grown). g.marks) (c.right.view_is ∙ c.deref_mut.ensures.value) ∙ sym (ap marks_in_tree c.in-Some.is) in
    let moved = sym (lowered_at-left c.args.place (marks_in_tree c.right.inside.left) c.right.inside.mark (marks_in_tree c.right.inside.right) c.right.invariant.rising c.if-place-mark.true) in
    rw (← whole, c.lower_at.ensures.marks) moved

pub returns-then-mark-place-clause-marks : goal.returns-then-mark-place-clause-marks
returns-then-mark-place-clause-marks t c =
    let whole : marks_in_tree c.right.inside.left ++ c.right.inside.mark ∷ marks_in_tree c.right.inside.right ≡ marks_in_tree c.args.link.now = ap (λ (g : Grown). g.marks) (c.right.view_is ∙ c.deref_mut.ensures.value) ∙ sym (ap marks_in_tree c.in-Some.is) in
    let moved = sym (lowered_at-right c.args.place (marks_in_tree c.right.inside.left) c.right.inside.mark (marks_in_tree c.right.inside.right) c.right.invariant.rising c.if-mark-place.true) in
    rw (← whole, c.lower_at-then-mark-place.ensures.marks) moved

pub returns-else-mark-place-clause-marks : goal.returns-else-mark-place-clause-marks
returns-else-mark-place-clause-marks t c =
    let whole : marks_in_tree c.right.inside.left ++ c.right.inside.mark ∷ marks_in_tree c.right.inside.right ≡ marks_in_tree c.args.link.now = ap (λ (g : Grown). g.marks) (c.right.view_is ∙ c.deref_mut.ensures.value) ∙ sym (ap marks_in_tree c.in-Some.is) in
    let moved = sym (moved_both (lowered_at c.args.place) (marks_in_tree c.right.inside.left) c.right.inside.mark (one_down c.right.inside.mark) (marks_in_tree c.right.inside.right) (lowered_at_same c.args.place c.right.inside.mark (omega (arith, c.if-place-mark.false, c.if-mark-place.false)))) in
    rw (← whole, c.lower_at-else-mark-place.ensures.marks, c.lower_at-else-mark-place-2.ensures.marks) moved
