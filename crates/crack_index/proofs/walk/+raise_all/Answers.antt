use Rattle.std.proofs.Common.{ℕ, ◌≡◌, List, length, arith, length-append, ◌<◌, ◌-◌, ◌^◌, ◌∷◌, rules, refl, sym, ap, ◌∙◌}
use Rattle.std.specs.Prelude.{All}
use Rattle.crack_index.specs.declared.mark.Mark.{Mark}
use Rattle.crack_index.specs.Trees.{Grown, marks_in_tree}
use Rattle.crack_index.specs.Steps.{StepsUp}
use Rattle.crack_index.proofs.WalkLemmas.{Walked, Walked-some, Walked-none, Neared, Neared-stepped, none-is, All-left, All-here, All-right, All-some, up-near, up-middle, up-whole, IsBalanced-up, up-balanced, ahead}
use Rattle.crack_index.proofs.walk.+raise_all.Goals as goal
use Rattle.crack_index.proofs.walk.+raise_all.Goals.{in-Some+else-raise_all, in_default, in-Some-right, in-None, Joined-left}

-- the nearer side after the walk over it
nearer : (g : _) (t : _) (c : Joined-left g t) (number : ℕ) → All (λ m. number < m.bound.0) c.args.node.now.marks → Walked (StepsUp g.V.Visitor.visits number) ahead c.node.inside.left c.match-left.node-inside.1.1.1.0 c.args.way.now c.match-left.way' c.args.visitor.now c.match-left.visitor
nearer g t c number all =
    elim c.match-left.branch [
      | in-Some+else-raise_all x ↦ rw (x.node-inside-is, x.way'-is, x.visitor-is) (Walked-some (StepsUp g.V.Visitor.visits number) ahead c.node.inside.left x.in-Some.left x.deref_mut.result.now x.raise_all.new.node c.args.way.now x.raise_all.new.way c.args.visitor.now x.raise_all.new.visitor x.in-Some.is x.deref_mut.ensures.value (x.raise_all.ensures.goes number (All-some (λ m. number < m.bound.0) c.node.inside.left x.in-Some.left x.deref_mut.result.now x.in-Some.is x.deref_mut.ensures.value (All-left (λ m. number < m.bound.0) c.node.inside.left c.node.inside.mark c.node.inside.right c.args.node.now.marks (ap (λ (n : Grown). n.marks) c.node.view_is) all))) x.raise_all.ensures.height)
      | in_default x ↦ rw (x.node-inside-is, x.way'-is, x.visitor-is) (Walked-none (StepsUp g.V.Visitor.visits number) ahead c.node.inside.left c.args.way.now c.args.visitor.now x.in_default.is refl)
    ]

pub invariant_of-node : goal.invariant_of-node
invariant_of-node g t c =
    let near = (Walked-some (StepsUp g.V.Visitor.visits c.requires.above.0) ahead c.node.inside.left c.in-Some.left c.deref_mut.result.now c.raise_all.new.node c.args.way.now c.raise_all.new.way c.args.visitor.now c.raise_all.new.visitor c.in-Some.is c.deref_mut.ensures.value (c.raise_all.ensures.goes c.requires.above.0 (All-some (λ m. c.requires.above.0 < m.bound.0) c.node.inside.left c.in-Some.left c.deref_mut.result.now c.in-Some.is c.deref_mut.ensures.value (All-left (λ m. c.requires.above.0 < m.bound.0) c.node.inside.left c.node.inside.mark c.node.inside.right c.args.node.now.marks (ap (λ (n : Grown). n.marks) c.node.view_is) c.requires.above.1))) c.raise_all.ensures.height) in
    IsBalanced-up g.V.Visitor.visits c.requires.above.0 c.node.inside.left _ c.node.inside.mark c.node.inside.mark c.node.inside.right c.node.inside.right c.node.inside.height c.args.way.now c.raise_all.new.way c.args.visitor.now c.raise_all.new.visitor
    (up-near g.V.Visitor.visits c.requires.above.0 c.node.inside.left _ c.node.inside.mark c.node.inside.mark c.node.inside.right c.node.inside.right c.args.way.now c.raise_all.new.way c.args.visitor.now c.raise_all.new.visitor near (sym c.raise_all.ensures.ended ∙ c.if-raise_all.true)) near.height refl c.node.invariant

pub returns-then-raise_all-clause-goes : goal.returns-then-raise_all-clause-goes
returns-then-raise_all-clause-goes g t c = λ number all.
    let near = (Walked-some (StepsUp g.V.Visitor.visits number) ahead c.node.inside.left c.in-Some.left c.deref_mut.result.now c.raise_all.new.node c.args.way.now c.raise_all.new.way c.args.visitor.now c.raise_all.new.visitor c.in-Some.is c.deref_mut.ensures.value (c.raise_all.ensures.goes number (All-some (λ m. number < m.bound.0) c.node.inside.left c.in-Some.left c.deref_mut.result.now c.in-Some.is c.deref_mut.ensures.value (All-left (λ m. number < m.bound.0) c.node.inside.left c.node.inside.mark c.node.inside.right c.args.node.now.marks (ap (λ (n : Grown). n.marks) c.node.view_is) all))) c.raise_all.ensures.height) in
    rw (← (ap (λ (n : Grown). n.marks) c.node.view_is)) (up-near g.V.Visitor.visits number c.node.inside.left _ c.node.inside.mark c.node.inside.mark c.node.inside.right c.node.inside.right c.args.way.now c.raise_all.new.way c.args.visitor.now c.raise_all.new.visitor near (sym c.raise_all.ensures.ended ∙ c.if-raise_all.true))

pub step_up-requires-clause-small : goal.step_up-requires-clause-small
step_up-requires-clause-small g t c = (All-here (λ m. m.position < 2 ^ 64 - 1) c.node.inside.left c.node.inside.mark c.node.inside.right c.args.node.now.marks (ap (λ (n : Grown). n.marks) c.node.view_is) c.requires.small)

pub invariant_of-node-then-step_up : goal.invariant_of-node-then-step_up
invariant_of-node-then-step_up g t c =
    let near = nearer g t (goal.at.invariant_of-node-then-step_up g t c).Joined-left c.requires.above.0 c.requires.above.1 in
    IsBalanced-up g.V.Visitor.visits c.requires.above.0 c.node.inside.left c.match-left.node-inside.1.1.1.0 c.node.inside.mark c.step_up.new.mark c.node.inside.right c.node.inside.right c.node.inside.height c.args.way.now c.step_up.new.way c.args.visitor.now c.step_up.new.visitor
    (up-middle g.V.Visitor.visits c.requires.above.0 c.node.inside.left c.match-left.node-inside.1.1.1.0 c.node.inside.mark c.step_up.new.mark c.node.inside.right c.node.inside.right c.args.way.now c.match-left.way' c.step_up.new.way c.args.visitor.now c.match-left.visitor c.step_up.new.visitor near (c.step_up.ensures.steps c.requires.above.0 (All-here (λ m. c.requires.above.0 < m.bound.0) c.node.inside.left c.node.inside.mark c.node.inside.right c.args.node.now.marks (ap (λ (n : Grown). n.marks) c.node.view_is) c.requires.above.1)) (sym c.step_up.ensures.ended ∙ c.if-step_up.true)) near.height refl c.node.invariant

pub returns-then-step_up-clause-goes : goal.returns-then-step_up-clause-goes
returns-then-step_up-clause-goes g t c = λ number all.
    let near = nearer g t (goal.at.returns-then-step_up-clause-goes g t c).Joined-left number all in
    rw (← (ap (λ (n : Grown). n.marks) c.node.view_is)) (up-middle g.V.Visitor.visits number c.node.inside.left c.match-left.node-inside.1.1.1.0 c.node.inside.mark c.step_up.new.mark c.node.inside.right c.node.inside.right c.args.way.now c.match-left.way' c.step_up.new.way c.args.visitor.now c.match-left.visitor c.step_up.new.visitor near (c.step_up.ensures.steps number (All-here (λ m. number < m.bound.0) c.node.inside.left c.node.inside.mark c.node.inside.right c.args.node.now.marks (ap (λ (n : Grown). n.marks) c.node.view_is) all)) (sym c.step_up.ensures.ended ∙ c.if-step_up.true))

pub raise_all-requires-in-Some-right : goal.raise_all-requires-in-Some-right
raise_all-requires-in-Some-right g t c κs within =
    let here : marks_in_tree c.node.inside.right ≡ c.deref_mut-in-Some-right.result.now.marks = ap marks_in_tree c.in-Some-right.is ∙ ap (λ (n : Grown). n.marks) (sym c.deref_mut-in-Some-right.ensures.value) in
    let long = ap (λ (xs : List Mark). length xs) (ap (λ (n : Grown). n.marks) c.node.view_is) in
    let parts = length-append (marks_in_tree c.node.inside.left) (c.node.inside.mark ∷ (marks_in_tree c.node.inside.right)) in
    (omega (arith, c.decreases, long, parts, ap (λ (xs : List Mark). length xs) here), (search rules, (none-is c.step_up.new.way.ended (sym c.step_up.ensures.ended ∙ c.if-step_up.false), ((c.requires.above.0, (All-some (λ m. c.requires.above.0 < m.bound.0) c.node.inside.right c.in-Some-right.right c.deref_mut-in-Some-right.result.now c.in-Some-right.is c.deref_mut-in-Some-right.ensures.value (All-right (λ m. c.requires.above.0 < m.bound.0) c.node.inside.left c.node.inside.mark c.node.inside.right c.args.node.now.marks (ap (λ (n : Grown). n.marks) c.node.view_is) c.requires.above.1))), ((All-some (λ m. m.position < 2 ^ 64 - 1) c.node.inside.right c.in-Some-right.right c.deref_mut-in-Some-right.result.now c.in-Some-right.is c.deref_mut-in-Some-right.ensures.value (All-right (λ m. m.position < 2 ^ 64 - 1) c.node.inside.left c.node.inside.mark c.node.inside.right c.args.node.now.marks (ap (λ (n : Grown). n.marks) c.node.view_is) c.requires.small)), c.step_up.ensures.ready)))))

pub invariant_of-node-2 : goal.invariant_of-node-2
invariant_of-node-2 g t c =
    let near : Neared (StepsUp g.V.Visitor.visits c.requires.above.0) ahead c.node.inside.left c.match-left.node-inside.1.1.1.0 c.node.inside.mark c.step_up.new.mark c.args.way.now c.step_up.new.way c.args.visitor.now c.step_up.new.visitor = (Neared-stepped (StepsUp g.V.Visitor.visits c.requires.above.0) ahead c.node.inside.left c.match-left.node-inside.1.1.1.0 c.node.inside.mark c.step_up.new.mark c.args.way.now c.match-left.way' c.step_up.new.way c.args.visitor.now c.match-left.visitor c.step_up.new.visitor (nearer g t (goal.at.invariant_of-node-2 g t c).Joined-left c.requires.above.0 c.requires.above.1) (c.step_up.ensures.steps c.requires.above.0 (All-here (λ m. c.requires.above.0 < m.bound.0) c.node.inside.left c.node.inside.mark c.node.inside.right c.args.node.now.marks (ap (λ (n : Grown). n.marks) c.node.view_is) c.requires.above.1)) (sym c.step_up.ensures.ended ∙ c.if-step_up.false)) in
    elim c.match-right.branch [
      | in-Some-right w ↦ rw w.node-inside-is (up-balanced g.V.Visitor.visits c.requires.above.0 c.node.inside.left c.match-left.node-inside.1.1.1.0 c.node.inside.mark c.step_up.new.mark c.node.inside.right _ c.node.inside.height c.args.way.now c.step_up.new.way _ c.args.visitor.now c.step_up.new.visitor _ near
          (Walked-some (StepsUp g.V.Visitor.visits c.requires.above.0) ahead c.node.inside.right w.in-Some-right.right w.deref_mut-in-Some-right.result.now w.raise_all-in-Some-right.new.node c.step_up.new.way w.raise_all-in-Some-right.new.way c.step_up.new.visitor w.raise_all-in-Some-right.new.visitor w.in-Some-right.is w.deref_mut-in-Some-right.ensures.value (w.raise_all-in-Some-right.ensures.goes c.requires.above.0 (All-some (λ m. c.requires.above.0 < m.bound.0) c.node.inside.right w.in-Some-right.right w.deref_mut-in-Some-right.result.now w.in-Some-right.is w.deref_mut-in-Some-right.ensures.value (All-right (λ m. c.requires.above.0 < m.bound.0) c.node.inside.left c.node.inside.mark c.node.inside.right c.args.node.now.marks (ap (λ (n : Grown). n.marks) c.node.view_is) c.requires.above.1))) w.raise_all-in-Some-right.ensures.height) c.node.invariant)
      | in-None w ↦ rw w.node-inside-is (up-balanced g.V.Visitor.visits c.requires.above.0 c.node.inside.left c.match-left.node-inside.1.1.1.0 c.node.inside.mark c.step_up.new.mark c.node.inside.right c.node.inside.right c.node.inside.height c.args.way.now c.step_up.new.way _ c.args.visitor.now c.step_up.new.visitor _ near
          (Walked-none (StepsUp g.V.Visitor.visits c.requires.above.0) ahead c.node.inside.right c.step_up.new.way c.step_up.new.visitor w.in-None.is refl) c.node.invariant)
    ]

pub returns-clause-goes : goal.returns-clause-goes
returns-clause-goes g t c = λ number all.
    let near : Neared (StepsUp g.V.Visitor.visits number) ahead c.node.inside.left c.match-left.node-inside.1.1.1.0 c.node.inside.mark c.step_up.new.mark c.args.way.now c.step_up.new.way c.args.visitor.now c.step_up.new.visitor = (Neared-stepped (StepsUp g.V.Visitor.visits number) ahead c.node.inside.left c.match-left.node-inside.1.1.1.0 c.node.inside.mark c.step_up.new.mark c.args.way.now c.match-left.way' c.step_up.new.way c.args.visitor.now c.match-left.visitor c.step_up.new.visitor (nearer g t (goal.at.returns-clause-goes g t c).Joined-left number all) (c.step_up.ensures.steps number (All-here (λ m. number < m.bound.0) c.node.inside.left c.node.inside.mark c.node.inside.right c.args.node.now.marks (ap (λ (n : Grown). n.marks) c.node.view_is) all)) (sym c.step_up.ensures.ended ∙ c.if-step_up.false)) in
    elim c.match-right.branch [
      | in-Some-right w ↦ rw (w.node-inside-is, w.way'-is, w.visitor-is, ← ap (λ (n : Grown). n.marks) c.node.view_is) (up-whole g.V.Visitor.visits number c.node.inside.left c.match-left.node-inside.1.1.1.0 c.node.inside.mark c.step_up.new.mark c.node.inside.right _ c.args.way.now c.step_up.new.way _ c.args.visitor.now c.step_up.new.visitor _ near
          (Walked-some (StepsUp g.V.Visitor.visits number) ahead c.node.inside.right w.in-Some-right.right w.deref_mut-in-Some-right.result.now w.raise_all-in-Some-right.new.node c.step_up.new.way w.raise_all-in-Some-right.new.way c.step_up.new.visitor w.raise_all-in-Some-right.new.visitor w.in-Some-right.is w.deref_mut-in-Some-right.ensures.value (w.raise_all-in-Some-right.ensures.goes number (All-some (λ m. number < m.bound.0) c.node.inside.right w.in-Some-right.right w.deref_mut-in-Some-right.result.now w.in-Some-right.is w.deref_mut-in-Some-right.ensures.value (All-right (λ m. number < m.bound.0) c.node.inside.left c.node.inside.mark c.node.inside.right c.args.node.now.marks (ap (λ (n : Grown). n.marks) c.node.view_is) all))) w.raise_all-in-Some-right.ensures.height))
      | in-None w ↦ rw (w.node-inside-is, w.way'-is, w.visitor-is, ← ap (λ (n : Grown). n.marks) c.node.view_is) (up-whole g.V.Visitor.visits number c.node.inside.left c.match-left.node-inside.1.1.1.0 c.node.inside.mark c.step_up.new.mark c.node.inside.right c.node.inside.right c.args.way.now c.step_up.new.way c.step_up.new.way c.args.visitor.now c.step_up.new.visitor c.step_up.new.visitor near
          (Walked-none (StepsUp g.V.Visitor.visits number) ahead c.node.inside.right c.step_up.new.way c.step_up.new.visitor w.in-None.is refl))
    ]
