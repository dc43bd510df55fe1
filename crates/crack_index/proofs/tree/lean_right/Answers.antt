use Rattle.std.proofs.Common.{◌≡◌, ◌∷◌, ◌++◌, sym, ap, ◌∙◌}
use Rattle.crack_index.specs.Trees.{Grown, marks_in_tree}
use Rattle.crack_index.proofs.Sides.{leans_right-inner, leans_right-before, leans_right-behind}
use Rattle.crack_index.proofs.tree.lean_right.Goals as goal

pub with_children-before-requires-clause-rising : goal.with_children-before-requires-clause-rising
with_children-before-requires-clause-rising c =
    let is : c.args.top.value.marks ≡ marks_in_tree c.open-inner.result.left ++ c.open-inner.result.mark ∷ marks_in_tree c.open-inner.result.right = ap (λ (g : Grown). g.marks) (sym c.deref_mut.ensures.value) ∙ c.open-inner.ensures.marks in
    leans_right-inner _ _ _ _ c.args.mark c.open-inner.result.mark is c.requires.rising

pub with_children-before-requires-2-clause-rising : goal.with_children-before-requires-2-clause-rising
with_children-before-requires-2-clause-rising c =
    let is : c.args.top.value.marks ≡ marks_in_tree c.open-inner.result.left ++ c.open-inner.result.mark ∷ marks_in_tree c.open-inner.result.right = ap (λ (g : Grown). g.marks) (sym c.deref_mut.ensures.value) ∙ c.open-inner.ensures.marks in
    let parts : marks_in_tree c.open-inner.result.left ≡ marks_in_tree c.open-parts.result.left ++ c.open-parts.result.mark ∷ marks_in_tree c.open-parts.result.right = ap marks_in_tree c.in-Some.is ∙ ap (λ (g : Grown). g.marks) (sym c.deref_mut-2.ensures.value) ∙ c.open-parts.ensures.marks in
    leans_right-before _ _ _ _ _ _ c.args.mark c.open-inner.result.mark c.open-parts.result.mark is parts c.requires.rising

pub with_children-behind-requires-clause-rising : goal.with_children-behind-requires-clause-rising
with_children-behind-requires-clause-rising c =
    let is : c.args.top.value.marks ≡ marks_in_tree c.open-inner.result.left ++ c.open-inner.result.mark ∷ marks_in_tree c.open-inner.result.right = ap (λ (g : Grown). g.marks) (sym c.deref_mut.ensures.value) ∙ c.open-inner.ensures.marks in
    let parts : marks_in_tree c.open-inner.result.left ≡ marks_in_tree c.open-parts.result.left ++ c.open-parts.result.mark ∷ marks_in_tree c.open-parts.result.right = ap marks_in_tree c.in-Some.is ∙ ap (λ (g : Grown). g.marks) (sym c.deref_mut-2.ensures.value) ∙ c.open-parts.ensures.marks in
    leans_right-behind _ _ _ _ _ _ c.args.mark c.open-inner.result.mark c.open-parts.result.mark is parts c.requires.rising
