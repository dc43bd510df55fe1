use Rattle.std.proofs.Common.{◌≡◌, List, length, arith, length-append, ◌<◌, ◌-◌, ◌^◌, ◌∷◌, rules, refl, sym, ap, ◌∙◌}
use Rattle.crack_index.specs.declared.mark.Mark.{Mark}
use Rattle.crack_index.specs.Trees.{Grown, marks_in_tree}
use Rattle.crack_index.specs.Steps.{StepsUp}
use Rattle.crack_index.proofs.WalkLemmas.{Walked, Walked-some, Walked-none, Neared, Neared-stepped, All-left, All-here, All-right, All-some, up-near, up-middle, up-apart, up-whole, IsBalanced-up, up-balanced, ahead, above-right}
use Rattle.crack_index.proofs.walk.+raise_along.Goals as goal
use Rattle.crack_index.proofs.walk.+raise_along.Goals.{in-Some, in-None, in-Some-left+else-raise_along, in_default, in-Some-right, in-None-right, Joined-left}

-- at a bound on the other side of the number

pub raise_along-requires : goal.raise_along-requires
raise_along-requires g t c κs within =
    let here : marks_in_tree c.node.inside.right ≡ c.deref_mut.result.now.marks = ap marks_in_tree c.in-Some.is ∙ ap (λ (n : Grown). n.marks) (sym c.deref_mut.ensures.value) in
    let long = ap (λ (xs : List Mark). length xs) (ap (λ (n : Grown). n.marks) c.node.view_is) in
    let parts = length-append (marks_in_tree c.node.inside.left) (c.node.inside.mark ∷ (marks_in_tree c.node.inside.right)) in
    (omega (arith, c.decreases, long, parts, ap (λ (xs : List Mark). length xs) here), (search rules, (c.requires.going, ((All-some (λ m. m.position < 2 ^ 64 - 1) c.node.inside.right c.in-Some.right c.deref_mut.result.now c.in-Some.is c.deref_mut.ensures.value (All-right (λ m. m.position < 2 ^ 64 - 1) c.node.inside.left c.node.inside.mark c.node.inside.right c.args.node.now.marks (ap (λ (n : Grown). n.marks) c.node.view_is) c.requires.small)), c.requires.ready))))

pub invariant_of-node : goal.invariant_of-node
invariant_of-node g t c =
    let near : Neared (StepsUp g.V.Visitor.visits c.args.number) ahead c.node.inside.left c.node.inside.left c.node.inside.mark c.node.inside.mark c.args.way.now c.args.way.now c.args.visitor.now c.args.visitor.now = (up-apart g.V.Visitor.visits c.args.number c.node.inside.left c.node.inside.left c.node.inside.mark c.node.inside.mark c.node.inside.right c.node.inside.right c.args.way.now c.args.visitor.now c.node.invariant.rising (rw c.number.ensures at c.if-number.true) c.requires.going) in
    elim c.match-right.branch [
      | in-Some w ↦ rw w.node-inside-is (up-balanced g.V.Visitor.visits c.args.number c.node.inside.left c.node.inside.left c.node.inside.mark c.node.inside.mark c.node.inside.right _ c.node.inside.height c.args.way.now c.args.way.now _ c.args.visitor.now c.args.visitor.now _ near
          (Walked-some (StepsUp g.V.Visitor.visits c.args.number) ahead c.node.inside.right w.in-Some.right w.deref_mut.result.now w.raise_along.new.node c.args.way.now w.raise_along.new.way c.args.visitor.now w.raise_along.new.visitor w.in-Some.is w.deref_mut.ensures.value w.raise_along.ensures.goes w.raise_along.ensures.height) c.node.invariant)
      | in-None w ↦ rw w.node-inside-is (up-balanced g.V.Visitor.visits c.args.number c.node.inside.left c.node.inside.left c.node.inside.mark c.node.inside.mark c.node.inside.right c.node.inside.right c.node.inside.height c.args.way.now c.args.way.now _ c.args.visitor.now c.args.visitor.now _ near
          (Walked-none (StepsUp g.V.Visitor.visits c.args.number) ahead c.node.inside.right c.args.way.now c.args.visitor.now w.in-None.is refl) c.node.invariant)
    ]

pub returns-then-number-clause-goes : goal.returns-then-number-clause-goes
returns-then-number-clause-goes g t c =
    let near : Neared (StepsUp g.V.Visitor.visits c.args.number) ahead c.node.inside.left c.node.inside.left c.node.inside.mark c.node.inside.mark c.args.way.now c.args.way.now c.args.visitor.now c.args.visitor.now = (up-apart g.V.Visitor.visits c.args.number c.node.inside.left c.node.inside.left c.node.inside.mark c.node.inside.mark c.node.inside.right c.node.inside.right c.args.way.now c.args.visitor.now c.node.invariant.rising (rw c.number.ensures at c.if-number.true) c.requires.going) in
    elim c.match-right.branch [
      | in-Some w ↦ rw (w.node-inside-is, w.way'-is, w.visitor-is, ← ap (λ (n : Grown). n.marks) c.node.view_is) (up-whole g.V.Visitor.visits c.args.number c.node.inside.left c.node.inside.left c.node.inside.mark c.node.inside.mark c.node.inside.right _ c.args.way.now c.args.way.now _ c.args.visitor.now c.args.visitor.now _ near
          (Walked-some (StepsUp g.V.Visitor.visits c.args.number) ahead c.node.inside.right w.in-Some.right w.deref_mut.result.now w.raise_along.new.node c.args.way.now w.raise_along.new.way c.args.visitor.now w.raise_along.new.visitor w.in-Some.is w.deref_mut.ensures.value w.raise_along.ensures.goes w.raise_along.ensures.height))
      | in-None w ↦ rw (w.node-inside-is, w.way'-is, w.visitor-is, ← ap (λ (n : Grown). n.marks) c.node.view_is) (up-whole g.V.Visitor.visits c.args.number c.node.inside.left c.node.inside.left c.node.inside.mark c.node.inside.mark c.node.inside.right c.node.inside.right c.args.way.now c.args.way.now c.args.way.now c.args.visitor.now c.args.visitor.now c.args.visitor.now near
          (Walked-none (StepsUp g.V.Visitor.visits c.args.number) ahead c.node.inside.right c.args.way.now c.args.visitor.now w.in-None.is refl))
    ]

-- at a bound on the number's side

pub raise_along-requires-in-Some-left : goal.raise_along-requires-in-Some-left
raise_along-requires-in-Some-left g t c κs within =
    let here : marks_in_tree c.node.inside.left ≡ c.deref_mut-in-Some-left.result.now.marks = ap marks_in_tree c.in-Some-left.is ∙ ap (λ (n : Grown). n.marks) (sym c.deref_mut-in-Some-left.ensures.value) in
    let long = ap (λ (xs : List Mark). length xs) (ap (λ (n : Grown). n.marks) c.node.view_is) in
    let parts = length-append (marks_in_tree c.node.inside.left) (c.node.inside.mark ∷ (marks_in_tree c.node.inside.right)) in
    (omega (arith, c.decreases, long, parts, ap (λ (xs : List Mark). length xs) here), (search rules, (c.requires.going, ((All-some (λ m. m.position < 2 ^ 64 - 1) c.node.inside.left c.in-Some-left.left c.deref_mut-in-Some-left.result.now c.in-Some-left.is c.deref_mut-in-Some-left.ensures.value (All-left (λ m. m.position < 2 ^ 64 - 1) c.node.inside.left c.node.inside.mark c.node.inside.right c.args.node.now.marks (ap (λ (n : Grown). n.marks) c.node.view_is) c.requires.small)), c.requires.ready))))

pub invariant_of-node-then-raise_along : goal.invariant_of-node-then-raise_along
invariant_of-node-then-raise_along g t c =
    let near = (Walked-some (StepsUp g.V.Visitor.visits c.args.number) ahead c.node.inside.left c.in-Some-left.left c.deref_mut-in-Some-left.result.now c.raise_along-in-Some-left.new.node c.args.way.now c.raise_along-in-Some-left.new.way c.args.visitor.now c.raise_along-in-Some-left.new.visitor c.in-Some-left.is c.deref_mut-in-Some-left.ensures.value c.raise_along-in-Some-left.ensures.goes c.raise_along-in-Some-left.ensures.height) in
    IsBalanced-up g.V.Visitor.visits c.args.number c.node.inside.left _ c.node.inside.mark c.node.inside.mark c.node.inside.right c.node.inside.right c.node.inside.height c.args.way.now c.raise_along-in-Some-left.new.way c.args.visitor.now c.raise_along-in-Some-left.new.visitor
    (up-near g.V.Visitor.visits c.args.number c.node.inside.left _ c.node.inside.mark c.node.inside.mark c.node.inside.right c.node.inside.right c.args.way.now c.raise_along-in-Some-left.new.way c.args.visitor.now c.raise_along-in-Some-left.new.visitor near (sym c.raise_along-in-Some-left.ensures.ended ∙ c.if-raise_along.true)) near.height refl c.node.invariant

pub returns-then-raise_along-clause-goes : goal.returns-then-raise_along-clause-goes
returns-then-raise_along-clause-goes g t c =
    let near = (Walked-some (StepsUp g.V.Visitor.visits c.args.number) ahead c.node.inside.left c.in-Some-left.left c.deref_mut-in-Some-left.result.now c.raise_along-in-Some-left.new.node c.args.way.now c.raise_along-in-Some-left.new.way c.args.visitor.now c.raise_along-in-Some-left.new.visitor c.in-Some-left.is c.deref_mut-in-Some-left.ensures.value c.raise_along-in-Some-left.ensures.goes c.raise_along-in-Some-left.ensures.height) in
    rw (← ap (λ (n : Grown). n.marks) c.node.view_is) (up-near g.V.Visitor.visits c.args.number c.node.inside.left _ c.node.inside.mark c.node.inside.mark c.node.inside.right c.node.inside.right c.args.way.now c.raise_along-in-Some-left.new.way c.args.visitor.now c.raise_along-in-Some-left.new.visitor near (sym c.raise_along-in-Some-left.ensures.ended ∙ c.if-raise_along.true))

-- the nearer side after the walk over it
nearer : (g : _) (t : _) (c : Joined-left g t) → Walked (StepsUp g.V.Visitor.visits c.args.number) ahead c.node.inside.left c.match-left.node-inside.1.1.1.0 c.args.way.now c.match-left.way' c.args.visitor.now c.match-left.visitor
nearer g t c =
    elim c.match-left.branch [
      | in-Some-left+else-raise_along x ↦ rw (x.node-inside-is, x.way'-is, x.visitor-is) (Walked-some (StepsUp g.V.Visitor.visits c.args.number) ahead c.node.inside.left x.in-Some-left.left x.deref_mut-in-Some-left.result.now x.raise_along-in-Some-left.new.node c.args.way.now x.raise_along-in-Some-left.new.way c.args.visitor.now x.raise_along-in-Some-left.new.visitor x.in-Some-left.is x.deref_mut-in-Some-left.ensures.value x.raise_along-in-Some-left.ensures.goes x.raise_along-in-Some-left.ensures.height)
      | in_default x ↦ rw (x.node-inside-is, x.way'-is, x.visitor-is) (Walked-none (StepsUp g.V.Visitor.visits c.args.number) ahead c.node.inside.left c.args.way.now c.args.visitor.now x.in_default.is refl)
    ]

pub step_up-requires-clause-small : goal.step_up-requires-clause-small
step_up-requires-clause-small g t c = All-here (λ m. m.position < 2 ^ 64 - 1) c.node.inside.left c.node.inside.mark c.node.inside.right c.args.node.now.marks (ap (λ (n : Grown). n.marks) c.node.view_is) c.requires.small

pub invariant_of-node-then-step_up : goal.invariant_of-node-then-step_up
invariant_of-node-then-step_up g t c =
    let near = nearer g t (goal.at.invariant_of-node-then-step_up g t c).Joined-left in
    IsBalanced-up g.V.Visitor.visits c.args.number c.node.inside.left c.match-left.node-inside.1.1.1.0 c.node.inside.mark c.step_up.new.mark c.node.inside.right c.node.inside.right c.node.inside.height c.args.way.now c.step_up.new.way c.args.visitor.now c.step_up.new.visitor
    (up-middle g.V.Visitor.visits c.args.number c.node.inside.left c.match-left.node-inside.1.1.1.0 c.node.inside.mark c.step_up.new.mark c.node.inside.right c.node.inside.right c.args.way.now c.match-left.way' c.step_up.new.way c.args.visitor.now c.match-left.visitor c.step_up.new.visitor near (c.step_up.ensures.steps c.args.number (rw c.number.ensures at c.if-number.false)) (sym c.step_up.ensures.ended ∙ c.if-step_up.true)) near.height refl c.node.invariant

pub returns-then-step_up-clause-goes : goal.returns-then-step_up-clause-goes
returns-then-step_up-clause-goes g t c =
    let near = nearer g t (goal.at.returns-then-step_up-clause-goes g t c).Joined-left in
    rw (← ap (λ (n : Grown). n.marks) c.node.view_is) (up-middle g.V.Visitor.visits c.args.number c.node.inside.left c.match-left.node-inside.1.1.1.0 c.node.inside.mark c.step_up.new.mark c.node.inside.right c.node.inside.right c.args.way.now c.match-left.way' c.step_up.new.way c.args.visitor.now c.match-left.visitor c.step_up.new.visitor near (c.step_up.ensures.steps c.args.number (rw c.number.ensures at c.if-number.false)) (sym c.step_up.ensures.ended ∙ c.if-step_up.true))

-- the bounds on the farther side are all on the number's side as well

pub raise_all-requires-clause-above : goal.raise_all-requires-clause-above
raise_all-requires-clause-above g t c = (c.args.number, All-some (λ m. c.args.number < m.bound.0) c.node.inside.right c.in-Some-right.right c.deref_mut-in-Some-right.result.now c.in-Some-right.is c.deref_mut-in-Some-right.ensures.value (above-right c.args.number (marks_in_tree c.node.inside.left) c.node.inside.mark (marks_in_tree c.node.inside.right) c.node.invariant.rising (rw c.number.ensures at c.if-number.false)))

pub raise_all-requires-clause-small : goal.raise_all-requires-clause-small
raise_all-requires-clause-small g t c = All-some (λ m. m.position < 2 ^ 64 - 1) c.node.inside.right c.in-Some-right.right c.deref_mut-in-Some-right.result.now c.in-Some-right.is c.deref_mut-in-Some-right.ensures.value (All-right (λ m. m.position < 2 ^ 64 - 1) c.node.inside.left c.node.inside.mark c.node.inside.right c.args.node.now.marks (ap (λ (n : Grown). n.marks) c.node.view_is) c.requires.small)

pub invariant_of-node-2 : goal.invariant_of-node-2
invariant_of-node-2 g t c =
    let near : Neared (StepsUp g.V.Visitor.visits c.args.number) ahead c.node.inside.left c.match-left.node-inside.1.1.1.0 c.node.inside.mark c.step_up.new.mark c.args.way.now c.step_up.new.way c.args.visitor.now c.step_up.new.visitor = Neared-stepped (StepsUp g.V.Visitor.visits c.args.number) ahead c.node.inside.left c.match-left.node-inside.1.1.1.0 c.node.inside.mark c.step_up.new.mark c.args.way.now c.match-left.way' c.step_up.new.way c.args.visitor.now c.match-left.visitor c.step_up.new.visitor (nearer g t (goal.at.invariant_of-node-2 g t c).Joined-left) (c.step_up.ensures.steps c.args.number (rw c.number.ensures at c.if-number.false)) (sym c.step_up.ensures.ended ∙ c.if-step_up.false) in
    elim c.match-right-2.branch [
      | in-Some-right w ↦ rw w.node-inside-is (up-balanced g.V.Visitor.visits c.args.number c.node.inside.left c.match-left.node-inside.1.1.1.0 c.node.inside.mark c.step_up.new.mark c.node.inside.right _ c.node.inside.height c.args.way.now c.step_up.new.way _ c.args.visitor.now c.step_up.new.visitor _ near
          (Walked-some (StepsUp g.V.Visitor.visits c.args.number) ahead c.node.inside.right w.in-Some-right.right w.deref_mut-in-Some-right.result.now w.raise_all.new.node c.step_up.new.way w.raise_all.new.way c.step_up.new.visitor w.raise_all.new.visitor w.in-Some-right.is w.deref_mut-in-Some-right.ensures.value (w.raise_all.ensures.goes c.args.number (All-some (λ m. c.args.number < m.bound.0) c.node.inside.right w.in-Some-right.right w.deref_mut-in-Some-right.result.now w.in-Some-right.is w.deref_mut-in-Some-right.ensures.value (above-right c.args.number (marks_in_tree c.node.inside.left) c.node.inside.mark (marks_in_tree c.node.inside.right) c.node.invariant.rising (rw c.number.ensures at c.if-number.false)))) w.raise_all.ensures.height) c.node.invariant)
      | in-None-right w ↦ rw w.node-inside-is (up-balanced g.V.Visitor.visits c.args.number c.node.inside.left c.match-left.node-inside.1.1.1.0 c.node.inside.mark c.step_up.new.mark c.node.inside.right c.node.inside.right c.node.inside.height c.args.way.now c.step_up.new.way _ c.args.visitor.now c.step_up.new.visitor _ near
          (Walked-none (StepsUp g.V.Visitor.visits c.args.number) ahead c.node.inside.right c.step_up.new.way c.step_up.new.visitor w.in-None-right.is refl) c.node.invariant)
    ]

pub returns-clause-goes : goal.returns-clause-goes
returns-clause-goes g t c =
    let near : Neared (StepsUp g.V.Visitor.visits c.args.number) ahead c.node.inside.left c.match-left.node-inside.1.1.1.0 c.node.inside.mark c.step_up.new.mark c.args.way.now c.step_up.new.way c.args.visitor.now c.step_up.new.visitor = Neared-stepped (StepsUp g.V.Visitor.visits c.args.number) ahead c.node.inside.left c.match-left.node-inside.1.1.1.0 c.node.inside.mark c.step_up.new.mark c.args.way.now c.match-left.way' c.step_up.new.way c.args.visitor.now c.match-left.visitor c.step_up.new.visitor (nearer g t (goal.at.returns-clause-goes g t c).Joined-left) (c.step_up.ensures.steps c.args.number (rw c.number.ensures at c.if-number.false)) (sym c.step_up.ensures.ended ∙ c.if-step_up.false) in
    elim c.match-right-2.branch [
      | in-Some-right w ↦ rw (w.node-inside-is, w.way'-is, w.visitor-is, ← ap (λ (n : Grown). n.marks) c.node.view_is) (up-whole g.V.Visitor.visits c.args.number c.node.inside.left c.match-left.node-inside.1.1.1.0 c.node.inside.mark c.step_up.new.mark c.node.inside.right _ c.args.way.now c.step_up.new.way _ c.args.visitor.now c.step_up.new.visitor _ near
          (Walked-some (StepsUp g.V.Visitor.visits c.args.number) ahead c.node.inside.right w.in-Some-right.right w.deref_mut-in-Some-right.result.now w.raise_all.new.node c.step_up.new.way w.raise_all.new.way c.step_up.new.visitor w.raise_all.new.visitor w.in-Some-right.is w.deref_mut-in-Some-right.ensures.value (w.raise_all.ensures.goes c.args.number (All-some (λ m. c.args.number < m.bound.0) c.node.inside.right w.in-Some-right.right w.deref_mut-in-Some-right.result.now w.in-Some-right.is w.deref_mut-in-Some-right.ensures.value (above-right c.args.number (marks_in_tree c.node.inside.left) c.node.inside.mark (marks_in_tree c.node.inside.right) c.node.invariant.rising (rw c.number.ensures at c.if-number.false)))) w.raise_all.ensures.height))
      | in-None-right w ↦ rw (w.node-inside-is, w.way'-is, w.visitor-is, ← ap (λ (n : Grown). n.marks) c.node.view_is) (up-whole g.V.Visitor.visits c.args.number c.node.inside.left c.match-left.node-inside.1.1.1.0 c.node.inside.mark c.step_up.new.mark c.node.inside.right c.node.inside.right c.args.way.now c.step_up.new.way c.step_up.new.way c.args.visitor.now c.step_up.new.visitor c.step_up.new.visitor near
          (Walked-none (StepsUp g.V.Visitor.visits c.args.number) ahead c.node.inside.right c.step_up.new.way c.step_up.new.visitor w.in-None-right.is refl))
    ]
