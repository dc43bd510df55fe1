use Rattle.std.proofs.Common.{◌≡◌, ◌+◌, ◌≤◌, ◌∷◌, ◌++◌, reverse, rules, sym, ap, ◌∙◌, arith}
use Rattle.std.proofs.lemmas.Grind.{common_steps}
use Rattle.crack_index.specs.Raises.{Raises}
use Rattle.crack_index.specs.Trees.{Grown, marks_in_tree}
use Rattle.crack_index.proofs.RaiseLemmas.{Raises-none, Raises-node, Rising-raises, IsBalanced-raises}
use Rattle.crack_index.proofs.WalkLemmas.{All-left, All-here, All-right}
use Rattle.crack_index.proofs.raising.+raise_down.Goals as goal
use Rattle.crack_index.proofs.raising.+raise_down.Goals.{After-deref_mut-2, After-raise_down}

-- the marks of the node are those of the tree
whole : (g : _) (t : _) (c : After-deref_mut-2 g t) → marks_in_tree c.deref_mut-2.inside.left ++ c.deref_mut-2.inside.mark ∷ marks_in_tree c.deref_mut-2.inside.right ≡ marks_in_tree c.args.link.now
whole g t c = ap (λ (n : Grown). n.marks) (c.deref_mut-2.view_is ∙ c.deref_mut.ensures.value) ∙ sym (ap marks_in_tree c.in-Some.is)

raised : (g : _) (t : _) (c : After-raise_down g t) → Raises g.V.Raiser.rises c.args.most (reverse (marks_in_tree c.deref_mut-2.inside.left ++ c.deref_mut-2.inside.mark ∷ marks_in_tree c.deref_mut-2.inside.right)) c.args.visitor.now (reverse (marks_in_tree c.raise_down.new.link ++ c.raise_mark-here.new.mark ∷ marks_in_tree c.raise_down-above.new.link)) c.raise_down.new.visitor c.raise_down.result
raised g t c = Raises-node g.V.Raiser.rises c.args.most c.raise_down-above.result c.raise_mark-here.result c.raise_down.result (marks_in_tree c.deref_mut-2.inside.left) (marks_in_tree c.raise_down.new.link) c.deref_mut-2.inside.mark c.raise_mark-here.new.mark (marks_in_tree c.deref_mut-2.inside.right) (marks_in_tree c.raise_down-above.new.link) c.args.visitor.now c.raise_down-above.new.visitor c.raise_mark-here.new.visitor c.raise_down.new.visitor c.raise_down-above.ensures.raises c.raise_mark-here.ensures.raises c.raise_down.ensures.raises

pub returns-then-most-eq0-clause-raises : goal.returns-then-most-eq0-clause-raises
returns-then-most-eq0-clause-raises g t c = rw c.if-most-eq0.true (Raises-none g.V.Raiser.rises (reverse (marks_in_tree c.args.link.now)) c.args.visitor.now)

pub returns-in_default-clause-raises : goal.returns-in_default-clause-raises
returns-in_default-clause-raises g t c = rw c.in_default.is (Raises.done c.args.most c.args.visitor.now)

pub raise_down-above-requires : goal.raise_down-above-requires
raise_down-above-requires g t c κs within =
    let all = whole g t (goal.at.raise_down-above-requires g t c).After-deref_mut-2 in
    (grind (arith, common_steps), (search rules, (All-right (λ m. m.position + c.args.most ≤ 18446744073709551615) c.deref_mut-2.inside.left c.deref_mut-2.inside.mark c.deref_mut-2.inside.right (marks_in_tree c.args.link.now) all c.requires.small, c.requires.ready)))

pub raise_mark-here-requires-clause-small : goal.raise_mark-here-requires-clause-small
raise_mark-here-requires-clause-small g t c =
    let all = whole g t (goal.at.raise_mark-here-requires-clause-small g t c).After-deref_mut-2 in
    omega (arith, All-here (λ m. m.position + c.args.most ≤ 18446744073709551615) c.deref_mut-2.inside.left c.deref_mut-2.inside.mark c.deref_mut-2.inside.right (marks_in_tree c.args.link.now) all c.requires.small, c.raise_down-above.ensures.most)

pub raise_down-requires : goal.raise_down-requires
raise_down-requires g t c κs within =
    let all = whole g t (goal.at.raise_down-requires g t c).After-deref_mut-2 in
    let small = All-left (λ m. m.position + c.args.most ≤ 18446744073709551615) c.deref_mut-2.inside.left c.deref_mut-2.inside.mark c.deref_mut-2.inside.right (marks_in_tree c.args.link.now) all c.requires.small in
    (grind (arith, common_steps), (search rules, ((λ k d h. omega (arith, small k d h, c.raise_mark-here.ensures.most, c.raise_down-above.ensures.most)), c.raise_mark-here.ensures.ready)))

pub invariant_of-deref_mut : goal.invariant_of-deref_mut
invariant_of-deref_mut g t c =
    IsBalanced-raises g.V.Raiser.rises c.args.most c.raise_down.result c.deref_mut-2.inside.left c.raise_down.new.link c.deref_mut-2.inside.mark c.raise_mark-here.new.mark c.deref_mut-2.inside.right c.raise_down-above.new.link c.deref_mut-2.inside.height c.args.visitor.now c.raise_down.new.visitor (raised g t (goal.at.invariant_of-deref_mut g t c).After-raise_down) c.raise_down.ensures.height c.raise_down-above.ensures.height c.deref_mut-2.invariant

pub returns-clause-raises : goal.returns-clause-raises
returns-clause-raises g t c =
    let now = (goal.at.returns-clause-raises g t c).After-raise_down in
    rw (← (whole g t (goal.at.returns-clause-raises g t c).After-deref_mut-2)) (raised g t now)

pub returns-clause-rising : goal.returns-clause-rising
returns-clause-rising g t c = λ rising.
    let now = (goal.at.returns-clause-rising g t c).After-raise_down in
    Rising-raises g.V.Raiser.rises c.args.most c.raise_down.result (marks_in_tree c.deref_mut-2.inside.left ++ c.deref_mut-2.inside.mark ∷ marks_in_tree c.deref_mut-2.inside.right) (marks_in_tree c.raise_down.new.link ++ c.raise_mark-here.new.mark ∷ marks_in_tree c.raise_down-above.new.link) c.args.visitor.now c.raise_down.new.visitor (raised g t now) c.deref_mut-2.invariant.rising
