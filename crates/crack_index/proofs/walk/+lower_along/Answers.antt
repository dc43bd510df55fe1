use Rattle.std.proofs.Common.{◌≡◌, List, length, arith, length-append, ◌≤◌, ◌∷◌, reverse, rules, refl, sym, ap, ◌∙◌}
use Rattle.crack_index.specs.declared.mark.Mark.{Mark}
use Rattle.crack_index.specs.Trees.{Grown, marks_in_tree}
use Rattle.crack_index.specs.Steps.{StepsDown}
use Rattle.crack_index.proofs.WalkLemmas.{Walked, Walked-some, Walked-none, Neared, Neared-stepped, All-some, down-near, down-middle, down-apart, down-whole, IsBalanced-down, down-balanced, below-left}
use Rattle.crack_index.proofs.walk.+lower_along.Goals as goal
use Rattle.crack_index.proofs.walk.+lower_along.Goals.{in-Some, in-None, in-Some-right+else-lower_along, in_default, in-Some-left, in-None-left, Joined-right}

-- at a bound on the other side of the number

pub lower_along-requires : goal.lower_along-requires
lower_along-requires g t c κs within =
    let here : marks_in_tree c.node.inside.left ≡ c.deref_mut.result.now.marks = ap marks_in_tree c.in-Some.is ∙ ap (λ (n : Grown). n.marks) (sym c.deref_mut.ensures.value) in
    let long = ap (λ (xs : List Mark). length xs) (ap (λ (n : Grown). n.marks) c.node.view_is) in
    let parts = length-append (marks_in_tree c.node.inside.left) (c.node.inside.mark ∷ (marks_in_tree c.node.inside.right)) in
    (omega (arith, c.decreases, long, parts, ap (λ (xs : List Mark). length xs) here), (search rules, (c.requires.going, c.requires.ready)))

pub invariant_of-node : goal.invariant_of-node
invariant_of-node g t c =
    let near : Neared (StepsDown g.V.Visitor.visits c.args.number) reverse c.node.inside.right c.node.inside.right c.node.inside.mark c.node.inside.mark c.args.way.now c.args.way.now c.args.visitor.now c.args.visitor.now = (down-apart g.V.Visitor.visits c.args.number c.node.inside.left c.node.inside.left c.node.inside.mark c.node.inside.mark c.node.inside.right c.node.inside.right c.args.way.now c.args.visitor.now c.node.invariant.rising (rw c.number.ensures at c.if-number.true) c.requires.going) in
    elim c.match-left.branch [
      | in-Some w ↦ rw w.node-inside-is (down-balanced g.V.Visitor.visits c.args.number c.node.inside.left _ c.node.inside.mark c.node.inside.mark c.node.inside.right c.node.inside.right c.node.inside.height c.args.way.now c.args.way.now _ c.args.visitor.now c.args.visitor.now _ near
          (Walked-some (StepsDown g.V.Visitor.visits c.args.number) reverse c.node.inside.left w.in-Some.left w.deref_mut.result.now w.lower_along.new.node c.args.way.now w.lower_along.new.way c.args.visitor.now w.lower_along.new.visitor w.in-Some.is w.deref_mut.ensures.value w.lower_along.ensures.goes w.lower_along.ensures.height) c.node.invariant)
      | in-None w ↦ rw w.node-inside-is (down-balanced g.V.Visitor.visits c.args.number c.node.inside.left c.node.inside.left c.node.inside.mark c.node.inside.mark c.node.inside.right c.node.inside.right c.node.inside.height c.args.way.now c.args.way.now _ c.args.visitor.now c.args.visitor.now _ near
          (Walked-none (StepsDown g.V.Visitor.visits c.args.number) reverse c.node.inside.left c.args.way.now c.args.visitor.now w.in-None.is refl) c.node.invariant)
    ]

pub returns-then-number-clause-goes : goal.returns-then-number-clause-goes
returns-then-number-clause-goes g t c =
    let near : Neared (StepsDown g.V.Visitor.visits c.args.number) reverse c.node.inside.right c.node.inside.right c.node.inside.mark c.node.inside.mark c.args.way.now c.args.way.now c.args.visitor.now c.args.visitor.now = (down-apart g.V.Visitor.visits c.args.number c.node.inside.left c.node.inside.left c.node.inside.mark c.node.inside.mark c.node.inside.right c.node.inside.right c.args.way.now c.args.visitor.now c.node.invariant.rising (rw c.number.ensures at c.if-number.true) c.requires.going) in
    elim c.match-left.branch [
      | in-Some w ↦ rw (w.node-inside-is, w.way'-is, w.visitor-is, ← ap (λ (n : Grown). n.marks) c.node.view_is) (down-whole g.V.Visitor.visits c.args.number c.node.inside.left _ c.node.inside.mark c.node.inside.mark c.node.inside.right c.node.inside.right c.args.way.now c.args.way.now _ c.args.visitor.now c.args.visitor.now _ near
          (Walked-some (StepsDown g.V.Visitor.visits c.args.number) reverse c.node.inside.left w.in-Some.left w.deref_mut.result.now w.lower_along.new.node c.args.way.now w.lower_along.new.way c.args.visitor.now w.lower_along.new.visitor w.in-Some.is w.deref_mut.ensures.value w.lower_along.ensures.goes w.lower_along.ensures.height))
      | in-None w ↦ rw (w.node-inside-is, w.way'-is, w.visitor-is, ← ap (λ (n : Grown). n.marks) c.node.view_is) (down-whole g.V.Visitor.visits c.args.number c.node.inside.left c.node.inside.left c.node.inside.mark c.node.inside.mark c.node.inside.right c.node.inside.right c.args.way.now c.args.way.now c.args.way.now c.args.visitor.now c.args.visitor.now c.args.visitor.now near
          (Walked-none (StepsDown g.V.Visitor.visits c.args.number) reverse c.node.inside.left c.args.way.now c.args.visitor.now w.in-None.is refl))
    ]

-- at a bound on the number's side

pub lower_along-requires-in-Some-right : goal.lower_along-requires-in-Some-right
lower_along-requires-in-Some-right g t c κs within =
    let here : marks_in_tree c.node.inside.right ≡ c.deref_mut-in-Some-right.result.now.marks = ap marks_in_tree c.in-Some-right.is ∙ ap (λ (n : Grown). n.marks) (sym c.deref_mut-in-Some-right.ensures.value) in
    let long = ap (λ (xs : List Mark). length xs) (ap (λ (n : Grown). n.marks) c.node.view_is) in
    let parts = length-append (marks_in_tree c.node.inside.left) (c.node.inside.mark ∷ (marks_in_tree c.node.inside.right)) in
    (omega (arith, c.decreases, long, parts, ap (λ (xs : List Mark). length xs) here), (search rules, (c.requires.going, c.requires.ready)))

pub invariant_of-node-then-lower_along : goal.invariant_of-node-then-lower_along
invariant_of-node-then-lower_along g t c =
    let near = (Walked-some (StepsDown g.V.Visitor.visits c.args.number) reverse c.node.inside.right c.in-Some-right.right c.deref_mut-in-Some-right.result.now c.lower_along-in-Some-right.new.node c.args.way.now c.lower_along-in-Some-right.new.way c.args.visitor.now c.lower_along-in-Some-right.new.visitor c.in-Some-right.is c.deref_mut-in-Some-right.ensures.value c.lower_along-in-Some-right.ensures.goes c.lower_along-in-Some-right.ensures.height) in
    IsBalanced-down g.V.Visitor.visits c.args.number c.node.inside.left c.node.inside.left c.node.inside.mark c.node.inside.mark c.node.inside.right _ c.node.inside.height c.args.way.now c.lower_along-in-Some-right.new.way c.args.visitor.now c.lower_along-in-Some-right.new.visitor
    (down-near g.V.Visitor.visits c.args.number c.node.inside.left c.node.inside.left c.node.inside.mark c.node.inside.mark c.node.inside.right _ c.args.way.now c.lower_along-in-Some-right.new.way c.args.visitor.now c.lower_along-in-Some-right.new.visitor near (sym c.lower_along-in-Some-right.ensures.ended ∙ c.if-lower_along.true)) refl near.height c.node.invariant

pub returns-then-lower_along-clause-goes : goal.returns-then-lower_along-clause-goes
returns-then-lower_along-clause-goes g t c =
    let near = (Walked-some (StepsDown g.V.Visitor.visits c.args.number) reverse c.node.inside.right c.in-Some-right.right c.deref_mut-in-Some-right.result.now c.lower_along-in-Some-right.new.node c.args.way.now c.lower_along-in-Some-right.new.way c.args.visitor.now c.lower_along-in-Some-right.new.visitor c.in-Some-right.is c.deref_mut-in-Some-right.ensures.value c.lower_along-in-Some-right.ensures.goes c.lower_along-in-Some-right.ensures.height) in
    rw (← ap (λ (n : Grown). n.marks) c.node.view_is) (down-near g.V.Visitor.visits c.args.number c.node.inside.left c.node.inside.left c.node.inside.mark c.node.inside.mark c.node.inside.right _ c.args.way.now c.lower_along-in-Some-right.new.way c.args.visitor.now c.lower_along-in-Some-right.new.visitor near (sym c.lower_along-in-Some-right.ensures.ended ∙ c.if-lower_along.true))

-- the nearer side after the walk over it
nearer : (g : _) (t : _) (c : Joined-right g t) → Walked (StepsDown g.V.Visitor.visits c.args.number) reverse c.node.inside.right c.match-right.node-inside.1.1.1.1.0 c.args.way.now c.match-right.way' c.args.visitor.now c.match-right.visitor
nearer g t c =
    elim c.match-right.branch [
      | in-Some-right+else-lower_along x ↦ rw (x.node-inside-is, x.way'-is, x.visitor-is) (Walked-some (StepsDown g.V.Visitor.visits c.args.number) reverse c.node.inside.right x.in-Some-right.right x.deref_mut-in-Some-right.result.now x.lower_along-in-Some-right.new.node c.args.way.now x.lower_along-in-Some-right.new.way c.args.visitor.now x.lower_along-in-Some-right.new.visitor x.in-Some-right.is x.deref_mut-in-Some-right.ensures.value x.lower_along-in-Some-right.ensures.goes x.lower_along-in-Some-right.ensures.height)
      | in_default x ↦ rw (x.node-inside-is, x.way'-is, x.visitor-is) (Walked-none (StepsDown g.V.Visitor.visits c.args.number) reverse c.node.inside.right c.args.way.now c.args.visitor.now x.in_default.is refl)
    ]

pub invariant_of-node-then-step_down : goal.invariant_of-node-then-step_down
invariant_of-node-then-step_down g t c =
    let near = nearer g t (goal.at.invariant_of-node-then-step_down g t c).Joined-right in
    IsBalanced-down g.V.Visitor.visits c.args.number c.node.inside.left c.node.inside.left c.node.inside.mark c.step_down.new.mark c.node.inside.right c.match-right.node-inside.1.1.1.1.0 c.node.inside.height c.args.way.now c.step_down.new.way c.args.visitor.now c.step_down.new.visitor
    (down-middle g.V.Visitor.visits c.args.number c.node.inside.left c.node.inside.left c.node.inside.mark c.step_down.new.mark c.node.inside.right c.match-right.node-inside.1.1.1.1.0 c.args.way.now c.match-right.way' c.step_down.new.way c.args.visitor.now c.match-right.visitor c.step_down.new.visitor near (c.step_down.ensures.steps c.args.number (rw c.number.ensures at c.if-number.false)) (sym c.step_down.ensures.ended ∙ c.if-step_down.true)) refl near.height c.node.invariant

pub returns-then-step_down-clause-goes : goal.returns-then-step_down-clause-goes
returns-then-step_down-clause-goes g t c =
    let near = nearer g t (goal.at.returns-then-step_down-clause-goes g t c).Joined-right in
    rw (← ap (λ (n : Grown). n.marks) c.node.view_is) (down-middle g.V.Visitor.visits c.args.number c.node.inside.left c.node.inside.left c.node.inside.mark c.step_down.new.mark c.node.inside.right c.match-right.node-inside.1.1.1.1.0 c.args.way.now c.match-right.way' c.step_down.new.way c.args.visitor.now c.match-right.visitor c.step_down.new.visitor near (c.step_down.ensures.steps c.args.number (rw c.number.ensures at c.if-number.false)) (sym c.step_down.ensures.ended ∙ c.if-step_down.true))

-- the bounds on the farther side are all on the number's side as well

pub lower_all-requires-clause-below : goal.lower_all-requires-clause-below
lower_all-requires-clause-below g t c = (c.args.number, All-some (λ m. m.bound.0 ≤ c.args.number) c.node.inside.left c.in-Some-left.left c.deref_mut-in-Some-left.result.now c.in-Some-left.is c.deref_mut-in-Some-left.ensures.value (below-left c.args.number (marks_in_tree c.node.inside.left) c.node.inside.mark (marks_in_tree c.node.inside.right) c.node.invariant.rising (rw c.number.ensures at c.if-number.false)))

pub invariant_of-node-2 : goal.invariant_of-node-2
invariant_of-node-2 g t c =
    let near : Neared (StepsDown g.V.Visitor.visits c.args.number) reverse c.node.inside.right c.match-right.node-inside.1.1.1.1.0 c.node.inside.mark c.step_down.new.mark c.args.way.now c.step_down.new.way c.args.visitor.now c.step_down.new.visitor = Neared-stepped (StepsDown g.V.Visitor.visits c.args.number) reverse c.node.inside.right c.match-right.node-inside.1.1.1.1.0 c.node.inside.mark c.step_down.new.mark c.args.way.now c.match-right.way' c.step_down.new.way c.args.visitor.now c.match-right.visitor c.step_down.new.visitor (nearer g t (goal.at.invariant_of-node-2 g t c).Joined-right) (c.step_down.ensures.steps c.args.number (rw c.number.ensures at c.if-number.false)) (sym c.step_down.ensures.ended ∙ c.if-step_down.false) in
    elim c.match-left-2.branch [
      | in-Some-left w ↦ rw w.node-inside-is (down-balanced g.V.Visitor.visits c.args.number c.node.inside.left _ c.node.inside.mark c.step_down.new.mark c.node.inside.right c.match-right.node-inside.1.1.1.1.0 c.node.inside.height c.args.way.now c.step_down.new.way _ c.args.visitor.now c.step_down.new.visitor _ near
          (Walked-some (StepsDown g.V.Visitor.visits c.args.number) reverse c.node.inside.left w.in-Some-left.left w.deref_mut-in-Some-left.result.now w.lower_all.new.node c.step_down.new.way w.lower_all.new.way c.step_down.new.visitor w.lower_all.new.visitor w.in-Some-left.is w.deref_mut-in-Some-left.ensures.value (w.lower_all.ensures.goes c.args.number (All-some (λ m. m.bound.0 ≤ c.args.number) c.node.inside.left w.in-Some-left.left w.deref_mut-in-Some-left.result.now w.in-Some-left.is w.deref_mut-in-Some-left.ensures.value (below-left c.args.number (marks_in_tree c.node.inside.left) c.node.inside.mark (marks_in_tree c.node.inside.right) c.node.invariant.rising (rw c.number.ensures at c.if-number.false)))) w.lower_all.ensures.height) c.node.invariant)
      | in-None-left w ↦ rw w.node-inside-is (down-balanced g.V.Visitor.visits c.args.number c.node.inside.left c.node.inside.left c.node.inside.mark c.step_down.new.mark c.node.inside.right c.match-right.node-inside.1.1.1.1.0 c.node.inside.height c.args.way.now c.step_down.new.way _ c.args.visitor.now c.step_down.new.visitor _ near
          (Walked-none (StepsDown g.V.Visitor.visits c.args.number) reverse c.node.inside.left c.step_down.new.way c.step_down.new.visitor w.in-None-left.is refl) c.node.invariant)
    ]

pub returns-clause-goes : goal.returns-clause-goes
returns-clause-goes g t c =
    let near : Neared (StepsDown g.V.Visitor.visits c.args.number) reverse c.node.inside.right c.match-right.node-inside.1.1.1.1.0 c.node.inside.mark c.step_down.new.mark c.args.way.now c.step_down.new.way c.args.visitor.now c.step_down.new.visitor = Neared-stepped (StepsDown g.V.Visitor.visits c.args.number) reverse c.node.inside.right c.match-right.node-inside.1.1.1.1.0 c.node.inside.mark c.step_down.new.mark c.args.way.now c.match-right.way' c.step_down.new.way c.args.visitor.now c.match-right.visitor c.step_down.new.visitor (nearer g t (goal.at.returns-clause-goes g t c).Joined-right) (c.step_down.ensures.steps c.args.number (rw c.number.ensures at c.if-number.false)) (sym c.step_down.ensures.ended ∙ c.if-step_down.false) in
    elim c.match-left-2.branch [
      | in-Some-left w ↦ rw (w.node-inside-is, w.way'-is, w.visitor-is, ← ap (λ (n : Grown). n.marks) c.node.view_is) (down-whole g.V.Visitor.visits c.args.number c.node.inside.left _ c.node.inside.mark c.step_down.new.mark c.node.inside.right c.match-right.node-inside.1.1.1.1.0 c.args.way.now c.step_down.new.way _ c.args.visitor.now c.step_down.new.visitor _ near
          (Walked-some (StepsDown g.V.Visitor.visits c.args.number) reverse c.node.inside.left w.in-Some-left.left w.deref_mut-in-Some-left.result.now w.lower_all.new.node c.step_down.new.way w.lower_all.new.way c.step_down.new.visitor w.lower_all.new.visitor w.in-Some-left.is w.deref_mut-in-Some-left.ensures.value (w.lower_all.ensures.goes c.args.number (All-some (λ m. m.bound.0 ≤ c.args.number) c.node.inside.left w.in-Some-left.left w.deref_mut-in-Some-left.result.now w.in-Some-left.is w.deref_mut-in-Some-left.ensures.value (below-left c.args.number (marks_in_tree c.node.inside.left) c.node.inside.mark (marks_in_tree c.node.inside.right) c.node.invariant.rising (rw c.number.ensures at c.if-number.false)))) w.lower_all.ensures.height))
      | in-None-left w ↦ rw (w.node-inside-is, w.way'-is, w.visitor-is, ← ap (λ (n : Grown). n.marks) c.node.view_is) (down-whole g.V.Visitor.visits c.args.number c.node.inside.left c.node.inside.left c.node.inside.mark c.step_down.new.mark c.node.inside.right c.match-right.node-inside.1.1.1.1.0 c.args.way.now c.step_down.new.way c.step_down.new.way c.args.visitor.now c.step_down.new.visitor c.step_down.new.visitor near
          (Walked-none (StepsDown g.V.Visitor.visits c.args.number) reverse c.node.inside.left c.step_down.new.way c.step_down.new.visitor w.in-None-left.is refl))
    ]
