use Rattle.std.proofs.Common.{◌≡◌, ◌∷◌, ◌++◌, sym, ap, ◌∙◌}
use Rattle.crack_index.specs.Trees.{Grown, marks_in_tree}
use Rattle.crack_index.proofs.Sides.{leans_left-inner, leans_left-top, leans_left-before, leans_left-behind, leans_left-middle}
use Rattle.crack_index.proofs.tree.lean_left.Goals as goal

pub with_children-behind-requires-clause-rising : goal.with_children-behind-requires-clause-rising
with_children-behind-requires-clause-rising c =
    let is : c.args.top.value.marks ≡ marks_in_tree c.open-outer.result.left ++ c.open-outer.result.mark ∷ marks_in_tree c.open-outer.result.right = ap (λ (g : Grown). g.marks) (sym c.deref_mut.ensures.value) ∙ c.open-outer.ensures.marks in
    leans_left-inner _ _ _ _ c.open-outer.result.mark c.args.mark is c.requires.rising

pub with_children-requires-clause-rising : goal.with_children-requires-clause-rising
with_children-requires-clause-rising c =
    let is : c.args.top.value.marks ≡ marks_in_tree c.open-outer.result.left ++ c.open-outer.result.mark ∷ marks_in_tree c.open-outer.result.right = ap (λ (g : Grown). g.marks) (sym c.deref_mut.ensures.value) ∙ c.open-outer.ensures.marks in
    leans_left-top _ _ _ _ _ c.open-outer.result.mark c.args.mark is c.with_children-behind.ensures.marks c.requires.rising

pub with_children-before-requires-clause-rising : goal.with_children-before-requires-clause-rising
with_children-before-requires-clause-rising c =
    let is : c.args.top.value.marks ≡ marks_in_tree c.open-outer.result.left ++ c.open-outer.result.mark ∷ marks_in_tree c.open-outer.result.right = ap (λ (g : Grown). g.marks) (sym c.deref_mut.ensures.value) ∙ c.open-outer.ensures.marks in
    let parts : marks_in_tree c.open-outer.result.right ≡ marks_in_tree c.open-parts.result.left ++ c.open-parts.result.mark ∷ marks_in_tree c.open-parts.result.right = ap marks_in_tree c.in-Some.is ∙ ap (λ (g : Grown). g.marks) (sym c.deref_mut-2.ensures.value) ∙ c.open-parts.ensures.marks in
    leans_left-before _ _ _ _ _ _ c.open-outer.result.mark c.open-parts.result.mark c.args.mark is parts c.requires.rising

pub with_children-behind-requires-2-clause-rising : goal.with_children-behind-requires-2-clause-rising
with_children-behind-requires-2-clause-rising c =
    let is : c.args.top.value.marks ≡ marks_in_tree c.open-outer.result.left ++ c.open-outer.result.mark ∷ marks_in_tree c.open-outer.result.right = ap (λ (g : Grown). g.marks) (sym c.deref_mut.ensures.value) ∙ c.open-outer.ensures.marks in
    let parts : marks_in_tree c.open-outer.result.right ≡ marks_in_tree c.open-parts.result.left ++ c.open-parts.result.mark ∷ marks_in_tree c.open-parts.result.right = ap marks_in_tree c.in-Some.is ∙ ap (λ (g : Grown). g.marks) (sym c.deref_mut-2.ensures.value) ∙ c.open-parts.ensures.marks in
    leans_left-behind _ _ _ _ _ _ c.open-outer.result.mark c.open-parts.result.mark c.args.mark is parts c.requires.rising

pub with_children-requires-2-clause-rising : goal.with_children-requires-2-clause-rising
with_children-requires-2-clause-rising c =
    let is : c.args.top.value.marks ≡ marks_in_tree c.open-outer.result.left ++ c.open-outer.result.mark ∷ marks_in_tree c.open-outer.result.right = ap (λ (g : Grown). g.marks) (sym c.deref_mut.ensures.value) ∙ c.open-outer.ensures.marks in
    let parts : marks_in_tree c.open-outer.result.right ≡ marks_in_tree c.open-parts.result.left ++ c.open-parts.result.mark ∷ marks_in_tree c.open-parts.result.right = ap marks_in_tree c.in-Some.is ∙ ap (λ (g : Grown). g.marks) (sym c.deref_mut-2.ensures.value) ∙ c.open-parts.ensures.marks in
    leans_left-middle _ _ _ _ _ _ _ _ c.open-outer.result.mark c.open-parts.result.mark c.args.mark is parts c.with_children-before.ensures.marks c.with_children-behind-2.ensures.marks c.requires.rising
