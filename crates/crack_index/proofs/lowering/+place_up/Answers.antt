use Rattle.std.proofs.Common.{◌≡◌, ◌∷◌, ◌++◌, sym, ap, ◌∙◌}
use Rattle.crack_index.specs.Places.{Places}
use Rattle.crack_index.specs.Trees.{Grown, marks_in_tree}
use Rattle.crack_index.proofs.PlaceLemmas.{Places-node, Rising-places, IsBalanced-places}
use Rattle.crack_index.proofs.lowering.+place_up.Goals as goal
use Rattle.crack_index.proofs.lowering.+place_up.Goals.{After-deref_mut-2, After-place_up}

-- the marks of the node are those of the tree
whole : (g : _) (t : _) (c : After-deref_mut-2 g t) → marks_in_tree c.deref_mut-2.inside.left ++ c.deref_mut-2.inside.mark ∷ marks_in_tree c.deref_mut-2.inside.right ≡ marks_in_tree c.args.link.now
whole g t c = ap (λ (n : Grown). n.marks) (c.deref_mut-2.view_is ∙ c.deref_mut.ensures.value) ∙ sym (ap marks_in_tree c.in-Some.is)

placed : (g : _) (t : _) (c : After-place_up g t) → Places g.V.Placer.places c.args.least (marks_in_tree c.deref_mut-2.inside.left ++ c.deref_mut-2.inside.mark ∷ marks_in_tree c.deref_mut-2.inside.right) c.args.visitor.now (marks_in_tree c.place_up-below.new.link ++ c.place_mark-here.new.mark ∷ marks_in_tree c.place_up.new.link) c.place_up.new.visitor c.place_up.result
placed g t c = Places-node g.V.Placer.places c.args.least c.place_up-below.result c.place_mark-here.result c.place_up.result (marks_in_tree c.deref_mut-2.inside.left) (marks_in_tree c.place_up-below.new.link) c.deref_mut-2.inside.mark c.place_mark-here.new.mark (marks_in_tree c.deref_mut-2.inside.right) (marks_in_tree c.place_up.new.link) c.args.visitor.now c.place_up-below.new.visitor c.place_mark-here.new.visitor c.place_up.new.visitor c.place_up-below.ensures.places c.place_mark-here.ensures.places c.place_up.ensures.places

pub returns-in_default-clause-places : goal.returns-in_default-clause-places
returns-in_default-clause-places g t c = rw c.in_default.is (Places.done c.args.least c.args.visitor.now)

pub invariant_of-deref_mut : goal.invariant_of-deref_mut
invariant_of-deref_mut g t c =
    IsBalanced-places g.V.Placer.places c.args.least c.place_up.result c.deref_mut-2.inside.left c.place_up-below.new.link c.deref_mut-2.inside.mark c.place_mark-here.new.mark c.deref_mut-2.inside.right c.place_up.new.link c.deref_mut-2.inside.height c.args.visitor.now c.place_up.new.visitor (placed g t (goal.at.invariant_of-deref_mut g t c).After-place_up) c.place_up-below.ensures.height c.place_up.ensures.height c.deref_mut-2.invariant

pub returns-clause-places : goal.returns-clause-places
returns-clause-places g t c =
    let now = (goal.at.returns-clause-places g t c).After-place_up in
    rw (← (whole g t (goal.at.returns-clause-places g t c).After-deref_mut-2)) (placed g t now)

pub returns-clause-rising : goal.returns-clause-rising
returns-clause-rising g t c = λ rising.
    let now = (goal.at.returns-clause-rising g t c).After-place_up in
    Rising-places g.V.Placer.places c.args.least c.place_up.result (marks_in_tree c.deref_mut-2.inside.left ++ c.deref_mut-2.inside.mark ∷ marks_in_tree c.deref_mut-2.inside.right) (marks_in_tree c.place_up-below.new.link ++ c.place_mark-here.new.mark ∷ marks_in_tree c.place_up.new.link) c.args.visitor.now c.place_up.new.visitor (placed g t now) c.deref_mut-2.invariant.rising
