use Rattle.std.proofs.Common.{ℕ, ◌≡◌, List, length, arith, length-append, ◌≤◌, ◌∷◌, reverse, rules, refl, sym, ap, ◌∙◌}
use Rattle.std.specs.Prelude.{All}
use Rattle.crack_index.specs.declared.mark.Mark.{Mark}
use Rattle.crack_index.specs.Trees.{Grown, marks_in_tree}
use Rattle.crack_index.specs.Steps.{StepsDown}
use Rattle.crack_index.proofs.WalkLemmas.{Walked, Walked-some, Walked-none, Neared, Neared-stepped, none-is, All-left, All-here, All-right, All-some, down-near, down-middle, down-whole, IsBalanced-down, down-balanced}
use Rattle.crack_index.proofs.walk.+lower_all.Goals as goal
use Rattle.crack_index.proofs.walk.+lower_all.Goals.{in-Some+else-lower_all, in_default, in-Some-left, in-None, Joined-right}

-- the nearer side after the walk over it
nearer : (g : _) (t : _) (c : Joined-right g t) (number : ℕ) → All (λ m. m.bound.0 ≤ number) c.args.node.now.marks → Walked (StepsDown g.V.Visitor.visits number) reverse c.node.inside.right c.match-right.node-inside.1.1.1.1.0 c.args.way.now c.match-right.way' c.args.visitor.now c.match-right.visitor
nearer g t c number all =
    elim c.match-right.branch [
      | in-Some+else-lower_all x ↦ rw (x.node-inside-is, x.way'-is, x.visitor-is) (Walked-some (StepsDown g.V.Visitor.visits number) reverse c.node.inside.right x.in-Some.right x.deref_mut.result.now x.lower_all.new.node c.args.way.now x.lower_all.new.way c.args.visitor.now x.lower_all.new.visitor x.in-Some.is x.deref_mut.ensures.value (x.lower_all.ensures.goes number (All-some (λ m. m.bound.0 ≤ number) c.node.inside.right x.in-Some.right x.deref_mut.result.now x.in-Some.is x.deref_mut.ensures.value (All-right (λ m. m.bound.0 ≤ number) c.node.inside.left c.node.inside.mark c.node.inside.right c.args.node.now.marks (ap (λ (n : Grown). n.marks) c.node.view_is) all))) x.lower_all.ensures.height)
      | in_default x ↦ rw (x.node-inside-is, x.way'-is, x.visitor-is) (Walked-none (StepsDown g.V.Visitor.visits number) reverse c.node.inside.right c.args.way.now c.args.visitor.now x.in_default.is refl)
    ]

pub invariant_of-node : goal.invariant_of-node
invariant_of-node g t c =
    let near = (Walked-some (StepsDown g.V.Visitor.visits c.requires.below.0) reverse c.node.inside.right c.in-Some.right c.deref_mut.result.now c.lower_all.new.node c.args.way.now c.lower_all.new.way c.args.visitor.now c.lower_all.new.visitor c.in-Some.is c.deref_mut.ensures.value (c.lower_all.ensures.goes c.requires.below.0 (All-some (λ m. m.bound.0 ≤ c.requires.below.0) c.node.inside.right c.in-Some.right c.deref_mut.result.now c.in-Some.is c.deref_mut.ensures.value (All-right (λ m. m.bound.0 ≤ c.requires.below.0) c.node.inside.left c.node.inside.mark c.node.inside.right c.args.node.now.marks (ap (λ (n : Grown). n.marks) c.node.view_is) c.requires.below.1))) c.lower_all.ensures.height) in
    IsBalanced-down g.V.Visitor.visits c.requires.below.0 c.node.inside.left c.node.inside.left c.node.inside.mark c.node.inside.mark c.node.inside.right _ c.node.inside.height c.args.way.now c.lower_all.new.way c.args.visitor.now c.lower_all.new.visitor
    (down-near g.V.Visitor.visits c.requires.below.0 c.node.inside.left c.node.inside.left c.node.inside.mark c.node.inside.mark c.node.inside.right _ c.args.way.now c.lower_all.new.way c.args.visitor.now c.lower_all.new.visitor near (sym c.lower_all.ensures.ended ∙ c.if-lower_all.true)) refl near.height c.node.invariant

pub returns-then-lower_all-clause-goes : goal.returns-then-lower_all-clause-goes
returns-then-lower_all-clause-goes g t c = λ number all.
    let near = (Walked-some (StepsDown g.V.Visitor.visits number) reverse c.node.inside.right c.in-Some.right c.deref_mut.result.now c.lower_all.new.node c.args.way.now c.lower_all.new.way c.args.visitor.now c.lower_all.new.visitor c.in-Some.is c.deref_mut.ensures.value (c.lower_all.ensures.goes number (All-some (λ m. m.bound.0 ≤ number) c.node.inside.right c.in-Some.right c.deref_mut.result.now c.in-Some.is c.deref_mut.ensures.value (All-right (λ m. m.bound.0 ≤ number) c.node.inside.left c.node.inside.mark c.node.inside.right c.args.node.now.marks (ap (λ (n : Grown). n.marks) c.node.view_is) all))) c.lower_all.ensures.height) in
    rw (← (ap (λ (n : Grown). n.marks) c.node.view_is)) (down-near g.V.Visitor.visits number c.node.inside.left c.node.inside.left c.node.inside.mark c.node.inside.mark c.node.inside.right _ c.args.way.now c.lower_all.new.way c.args.visitor.now c.lower_all.new.visitor near (sym c.lower_all.ensures.ended ∙ c.if-lower_all.true))

pub lower_all-requires : goal.lower_all-requires
lower_all-requires g t c κs within =
    let here : marks_in_tree c.node.inside.right ≡ c.deref_mut.result.now.marks = ap marks_in_tree c.in-Some.is ∙ ap (λ (n : Grown). n.marks) (sym c.deref_mut.ensures.value) in
    let long = ap (λ (xs : List Mark). length xs) (ap (λ (n : Grown). n.marks) c.node.view_is) in
    let parts = length-append (marks_in_tree c.node.inside.left) (c.node.inside.mark ∷ (marks_in_tree c.node.inside.right)) in
    (omega (arith, c.decreases, long, parts, ap (λ (xs : List Mark). length xs) here), (search rules, (c.requires.going, ((c.requires.below.0, (All-some (λ m. m.bound.0 ≤ c.requires.below.0) c.node.inside.right c.in-Some.right c.deref_mut.result.now c.in-Some.is c.deref_mut.ensures.value (All-right (λ m. m.bound.0 ≤ c.requires.below.0) c.node.inside.left c.node.inside.mark c.node.inside.right c.args.node.now.marks (ap (λ (n : Grown). n.marks) c.node.view_is) c.requires.below.1))), c.requires.ready))))

pub invariant_of-node-then-step_down : goal.invariant_of-node-then-step_down
invariant_of-node-then-step_down g t c =
    let near = nearer g t (goal.at.invariant_of-node-then-step_down g t c).Joined-right c.requires.below.0 c.requires.below.1 in
    IsBalanced-down g.V.Visitor.visits c.requires.below.0 c.node.inside.left c.node.inside.left c.node.inside.mark c.step_down.new.mark c.node.inside.right c.match-right.node-inside.1.1.1.1.0 c.node.inside.height c.args.way.now c.step_down.new.way c.args.visitor.now c.step_down.new.visitor
    (down-middle g.V.Visitor.visits c.requires.below.0 c.node.inside.left c.node.inside.left c.node.inside.mark c.step_down.new.mark c.node.inside.right c.match-right.node-inside.1.1.1.1.0 c.args.way.now c.match-right.way' c.step_down.new.way c.args.visitor.now c.match-right.visitor c.step_down.new.visitor near (c.step_down.ensures.steps c.requires.below.0 (All-here (λ m. m.bound.0 ≤ c.requires.below.0) c.node.inside.left c.node.inside.mark c.node.inside.right c.args.node.now.marks (ap (λ (n : Grown). n.marks) c.node.view_is) c.requires.below.1)) (sym c.step_down.ensures.ended ∙ c.if-step_down.true)) refl near.height c.node.invariant

pub returns-then-step_down-clause-goes : goal.returns-then-step_down-clause-goes
returns-then-step_down-clause-goes g t c = λ number all.
    let near = nearer g t (goal.at.returns-then-step_down-clause-goes g t c).Joined-right number all in
    rw (← (ap (λ (n : Grown). n.marks) c.node.view_is)) (down-middle g.V.Visitor.visits number c.node.inside.left c.node.inside.left c.node.inside.mark c.step_down.new.mark c.node.inside.right c.match-right.node-inside.1.1.1.1.0 c.args.way.now c.match-right.way' c.step_down.new.way c.args.visitor.now c.match-right.visitor c.step_down.new.visitor near (c.step_down.ensures.steps number (All-here (λ m. m.bound.0 ≤ number) c.node.inside.left c.node.inside.mark c.node.inside.right c.args.node.now.marks (ap (λ (n : Grown). n.marks) c.node.view_is) all)) (sym c.step_down.ensures.ended ∙ c.if-step_down.true))

pub lower_all-requires-in-Some-left : goal.lower_all-requires-in-Some-left
lower_all-requires-in-Some-left g t c κs within =
    let here : marks_in_tree c.node.inside.left ≡ c.deref_mut-in-Some-left.result.now.marks = ap marks_in_tree c.in-Some-left.is ∙ ap (λ (n : Grown). n.marks) (sym c.deref_mut-in-Some-left.ensures.value) in
    let long = ap (λ (xs : List Mark). length xs) (ap (λ (n : Grown). n.marks) c.node.view_is) in
    let parts = length-append (marks_in_tree c.node.inside.left) (c.node.inside.mark ∷ (marks_in_tree c.node.inside.right)) in
    (omega (arith, c.decreases, long, parts, ap (λ (xs : List Mark). length xs) here), (search rules, (none-is c.step_down.new.way.ended (sym c.step_down.ensures.ended ∙ c.if-step_down.false), ((c.requires.below.0, (All-some (λ m. m.bound.0 ≤ c.requires.below.0) c.node.inside.left c.in-Some-left.left c.deref_mut-in-Some-left.result.now c.in-Some-left.is c.deref_mut-in-Some-left.ensures.value (All-left (λ m. m.bound.0 ≤ c.requires.below.0) c.node.inside.left c.node.inside.mark c.node.inside.right c.args.node.now.marks (ap (λ (n : Grown). n.marks) c.node.view_is) c.requires.below.1))), c.step_down.ensures.ready))))

pub invariant_of-node-2 : goal.invariant_of-node-2
invariant_of-node-2 g t c =
    let near : Neared (StepsDown g.V.Visitor.visits c.requires.below.0) reverse c.node.inside.right c.match-right.node-inside.1.1.1.1.0 c.node.inside.mark c.step_down.new.mark c.args.way.now c.step_down.new.way c.args.visitor.now c.step_down.new.visitor = (Neared-stepped (StepsDown g.V.Visitor.visits c.requires.below.0) reverse c.node.inside.right c.match-right.node-inside.1.1.1.1.0 c.node.inside.mark c.step_down.new.mark c.args.way.now c.match-right.way' c.step_down.new.way c.args.visitor.now c.match-right.visitor c.step_down.new.visitor (nearer g t (goal.at.invariant_of-node-2 g t c).Joined-right c.requires.below.0 c.requires.below.1) (c.step_down.ensures.steps c.requires.below.0 (All-here (λ m. m.bound.0 ≤ c.requires.below.0) c.node.inside.left c.node.inside.mark c.node.inside.right c.args.node.now.marks (ap (λ (n : Grown). n.marks) c.node.view_is) c.requires.below.1)) (sym c.step_down.ensures.ended ∙ c.if-step_down.false)) in
    elim c.match-left.branch [
      | in-Some-left w ↦ rw w.node-inside-is (down-balanced g.V.Visitor.visits c.requires.below.0 c.node.inside.left _ c.node.inside.mark c.step_down.new.mark c.node.inside.right c.match-right.node-inside.1.1.1.1.0 c.node.inside.height c.args.way.now c.step_down.new.way _ c.args.visitor.now c.step_down.new.visitor _ near
          (Walked-some (StepsDown g.V.Visitor.visits c.requires.below.0) reverse c.node.inside.left w.in-Some-left.left w.deref_mut-in-Some-left.result.now w.lower_all-in-Some-left.new.node c.step_down.new.way w.lower_all-in-Some-left.new.way c.step_down.new.visitor w.lower_all-in-Some-left.new.visitor w.in-Some-left.is w.deref_mut-in-Some-left.ensures.value (w.lower_all-in-Some-left.ensures.goes c.requires.below.0 (All-some (λ m. m.bound.0 ≤ c.requires.below.0) c.node.inside.left w.in-Some-left.left w.deref_mut-in-Some-left.result.now w.in-Some-left.is w.deref_mut-in-Some-left.ensures.value (All-left (λ m. m.bound.0 ≤ c.requires.below.0) c.node.inside.left c.node.inside.mark c.node.inside.right c.args.node.now.marks (ap (λ (n : Grown). n.marks) c.node.view_is) c.requires.below.1))) w.lower_all-in-Some-left.ensures.height) c.node.invariant)
      | in-None w ↦ rw w.node-inside-is (down-balanced g.V.Visitor.visits c.requires.below.0 c.node.inside.left c.node.inside.left c.node.inside.mark c.step_down.new.mark c.node.inside.right c.match-right.node-inside.1.1.1.1.0 c.node.inside.height c.args.way.now c.step_down.new.way _ c.args.visitor.now c.step_down.new.visitor _ near
          (Walked-none (StepsDown g.V.Visitor.visits c.requires.below.0) reverse c.node.inside.left c.step_down.new.way c.step_down.new.visitor w.in-None.is refl) c.node.invariant)
    ]

pub returns-clause-goes : goal.returns-clause-goes
returns-clause-goes g t c = λ number all.
    let near : Neared (StepsDown g.V.Visitor.visits number) reverse c.node.inside.right c.match-right.node-inside.1.1.1.1.0 c.node.inside.mark c.step_down.new.mark c.args.way.now c.step_down.new.way c.args.visitor.now c.step_down.new.visitor = (Neared-stepped (StepsDown g.V.Visitor.visits number) reverse c.node.inside.right c.match-right.node-inside.1.1.1.1.0 c.node.inside.mark c.step_down.new.mark c.args.way.now c.match-right.way' c.step_down.new.way c.args.visitor.now c.match-right.visitor c.step_down.new.visitor (nearer g t (goal.at.returns-clause-goes g t c).Joined-right number all) (c.step_down.ensures.steps number (All-here (λ m. m.bound.0 ≤ number) c.node.inside.left c.node.inside.mark c.node.inside.right c.args.node.now.marks (ap (λ (n : Grown). n.marks) c.node.view_is) all)) (sym c.step_down.ensures.ended ∙ c.if-step_down.false)) in
    elim c.match-left.branch [
      | in-Some-left w ↦ rw (w.node-inside-is, w.way'-is, w.visitor-is, ← ap (λ (n : Grown). n.marks) c.node.view_is) (down-whole g.V.Visitor.visits number c.node.inside.left _ c.node.inside.mark c.step_down.new.mark c.node.inside.right c.match-right.node-inside.1.1.1.1.0 c.args.way.now c.step_down.new.way _ c.args.visitor.now c.step_down.new.visitor _ near
          (Walked-some (StepsDown g.V.Visitor.visits number) reverse c.node.inside.left w.in-Some-left.left w.deref_mut-in-Some-left.result.now w.lower_all-in-Some-left.new.node c.step_down.new.way w.lower_all-in-Some-left.new.way c.step_down.new.visitor w.lower_all-in-Some-left.new.visitor w.in-Some-left.is w.deref_mut-in-Some-left.ensures.value (w.lower_all-in-Some-left.ensures.goes number (All-some (λ m. m.bound.0 ≤ number) c.node.inside.left w.in-Some-left.left w.deref_mut-in-Some-left.result.now w.in-Some-left.is w.deref_mut-in-Some-left.ensures.value (All-left (λ m. m.bound.0 ≤ number) c.node.inside.left c.node.inside.mark c.node.inside.right c.args.node.now.marks (ap (λ (n : Grown). n.marks) c.node.view_is) all))) w.lower_all-in-Some-left.ensures.height))
      | in-None w ↦ rw (w.node-inside-is, w.way'-is, w.visitor-is, ← ap (λ (n : Grown). n.marks) c.node.view_is) (down-whole g.V.Visitor.visits number c.node.inside.left c.node.inside.left c.node.inside.mark c.step_down.new.mark c.node.inside.right c.match-right.node-inside.1.1.1.1.0 c.args.way.now c.step_down.new.way c.step_down.new.way c.args.visitor.now c.step_down.new.visitor c.step_down.new.visitor near
          (Walked-none (StepsDown g.V.Visitor.visits number) reverse c.node.inside.left c.step_down.new.way c.step_down.new.visitor w.in-None.is refl))
    ]
