use Rattle.std.proofs.Common.{◌≡◌, ◌⊎◌, ◌<◌, ◌≤◌, ◌∷◌, ◌++◌, refl, sym, ap, ◌∙◌, inl, inr, arith}
use Rattle.std.proofs.lemmas.Bool.{ltb-true, ltb-false}
use Rattle.crack_index.specs.Marks.{raised}
use Rattle.crack_index.specs.Steps.{one_up}
use Rattle.crack_index.specs.Trees.{Grown, marks_in_tree}
use Rattle.crack_index.proofs.Sides.{raised-left, raised-right, moved_both, IsBalanced-moved}
use Rattle.crack_index.proofs.MarkLaws.{Rising-raised}
use Rattle.crack_index.proofs.MarkLemmas.{raised_at}
use Rattle.crack_index.proofs.tree.+raise.Goals as goal
use Rattle.crack_index.proofs.tree.+raise.Goals.{then-number-low, else-number-low}

pub invariant_of-right : goal.invariant_of-right
invariant_of-right t c =
    let which : (c.left.inside.mark.bound.0 < c.args.low) ⊎ (c.left.inside.mark.position < c.args.place) = elim c.if-number-low.branch [
      | then-number-low w ↦ inl rw c.number.ensures at w.if-number-low.true
      | else-number-low w ↦ inr (ltb-true c.left.inside.mark.position c.args.place (sym w.value-is ∙ c.if-mark-place.true))
    ] in
    let moved = sym (raised-right c.args.low c.args.place (marks_in_tree c.left.inside.left) c.left.inside.mark (marks_in_tree c.left.inside.right) c.left.invariant.rising which) in
    IsBalanced-moved (raised c.args.low c.args.place) c.left.inside.left c.left.inside.left c.left.inside.mark c.left.inside.mark c.left.inside.right c.raise.new.link c.left.inside.height (Rising-raised c.args.low c.args.place _ c.left.invariant.rising) refl c.raise.ensures.height (rw c.raise.ensures.marks moved) c.left.invariant

pub invariant_of-mark : goal.invariant_of-mark
invariant_of-mark t c =
    let moved = sym (raised-left c.args.low c.args.place (marks_in_tree c.left.inside.left) c.left.inside.mark (marks_in_tree c.left.inside.right) c.left.invariant.rising c.if-place-mark.true) in
    IsBalanced-moved (raised c.args.low c.args.place) c.left.inside.left c.raise-then-place-mark.new.link c.left.inside.mark c.left.inside.mark c.left.inside.right c.left.inside.right c.left.inside.height (Rising-raised c.args.low c.args.place _ c.left.invariant.rising) c.raise-then-place-mark.ensures.height refl (rw c.raise-then-place-mark.ensures.marks moved) c.left.invariant

pub invariant_of-t-8 : goal.invariant_of-t-8
invariant_of-t-8 t c =
    let past : (c.args.low ≤ c.left.inside.mark.bound.0) × (c.args.place ≤ c.left.inside.mark.position) = elim c.if-number-low.branch [
      | then-number-low w ↦ absurd (omega (arith, w.if-number-low.true, ltb-false c.number.result c.args.low (sym w.value-is ∙ c.if-mark-place.false)))
      | else-number-low w ↦ (rw c.number.ensures at w.if-number-low.false, ltb-false c.left.inside.mark.position c.args.place (sym w.value-is ∙ c.if-mark-place.false))
    ] in
    let moved = sym (moved_both (raised c.args.low c.args.place) (marks_in_tree c.left.inside.left) c.left.inside.mark (one_up c.left.inside.mark) (marks_in_tree c.left.inside.right) (raised_at c.args.low c.args.place c.left.inside.mark past.0 (omega (arith, past.1, c.if-place-mark.false)))) in
    IsBalanced-moved (raised c.args.low c.args.place) c.left.inside.left c.raise-else-place-mark.new.link c.left.inside.mark (one_up c.left.inside.mark) c.left.inside.right c.raise-else-place-mark-2.new.link c.left.inside.height (Rising-raised c.args.low c.args.place _ c.left.invariant.rising) c.raise-else-place-mark.ensures.height c.raise-else-place-mark-2.ensures.height (rw (c.raise-else-place-mark.ensures.marks, c.raise-else-place-mark-2.ensures.marks) moved) c.left.invariant

pub returns-then-mark-place-clause-marks : goal.returns-then-mark-place-clause-marks
returns-then-mark-place-clause-marks t c =
    let whole : marks_in_tree c.left.inside.left ++ c.left.inside.mark ∷ marks_in_tree c.left.inside.right ≡ marks_in_tree c.args.link.now = ap (λ (g : Grown). g.marks) (c.left.view_is ∙ c.deref_mut.ensures.value) ∙ sym (ap marks_in_tree c.in-Some.is) in
    let which : (c.left.inside.mark.bound.0 < c.args.low) ⊎ (c.left.inside.mark.position < c.args.place) = elim c.if-number-low.branch [
      | then-number-low w ↦ inl rw c.number.ensures at w.if-number-low.true
      | else-number-low w ↦ inr (ltb-true c.left.inside.mark.position c.args.place (sym w.value-is ∙ c.if-mark-place.true))
    ] in
    let moved = sym (raised-right c.args.low c.args.place (marks_in_tree c.left.inside.left) c.left.inside.mark (marks_in_tree c.left.inside.right) c.left.invariant.rising which) in
    rw (← whole, c.raise.ensures.marks) moved

pub returns-then-place-mark-clause-marks : goal.returns-then-place-mark-clause-marks
returns-then-place-mark-clause-marks t c =
    let whole : marks_in_tree c.left.inside.left ++ c.left.inside.mark ∷ marks_in_tree c.left.inside.right ≡ marks_in_tree c.args.link.now = ap (λ (g : Grown). g.marks) (c.left.view_is ∙ c.deref_mut.ensures.value) ∙ sym (ap marks_in_tree c.in-Some.is) in
    let moved = sym (raised-left c.args.low c.args.place (marks_in_tree c.left.inside.left) c.left.inside.mark (marks_in_tree c.left.inside.right) c.left.invariant.rising c.if-place-mark.true) in
    rw (← whole, c.raise-then-place-mark.ensures.marks) moved

pub returns-else-place-mark-clause-marks : goal.returns-else-place-mark-clause-marks
returns-else-place-mark-clause-marks t c =
    let whole : marks_in_tree c.left.inside.left ++ c.left.inside.mark ∷ marks_in_tree c.left.inside.right ≡ marks_in_tree c.args.link.now = ap (λ (g : Grown). g.marks) (c.left.view_is ∙ c.deref_mut.ensures.value) ∙ sym (ap marks_in_tree c.in-Some.is) in
    let past : (c.args.low ≤ c.left.inside.mark.bound.0) × (c.args.place ≤ c.left.inside.mark.position) = elim c.if-number-low.branch [
      | then-number-low w ↦ absurd (omega (arith, w.if-number-low.true, ltb-false c.number.result c.args.low (sym w.value-is ∙ c.if-mark-place.false)))
      | else-number-low w ↦ (rw c.number.ensures at w.if-number-low.false, ltb-false c.left.inside.mark.position c.args.place (sym w.value-is ∙ c.if-mark-place.false))
    ] in
    let moved = sym (moved_both (raised c.args.low c.args.place) (marks_in_tree c.left.inside.left) c.left.inside.mark (one_up c.left.inside.mark) (marks_in_tree c.left.inside.right) (raised_at c.args.low c.args.place c.left.inside.mark past.0 (omega (arith, past.1, c.if-place-mark.false)))) in
    rw (← whole, c.raise-else-place-mark.ensures.marks, c.raise-else-place-mark-2.ensures.marks) moved
