use Rattle.std.proofs.Common.{◌≡◌, ◌∷◌, ◌++◌, append-nil, List, length, sym, ap, ◌∙◌, arith}
use Rattle.crack_index.specs.declared.mark.Mark.{Mark}
use Rattle.crack_index.specs.Keeps.{height_of}
use Rattle.crack_index.specs.Trees.{Grown, marks_in_tree}
use Rattle.crack_index.proofs.RemoveLaws.{SomeMarks-Rising, SomeMarks-removed}
use Rattle.crack_index.proofs.Sides.{removed-left, removed-right, removed-here, height_fits}
use Rattle.crack_index.proofs.tree.+remove.Goals as goal

pub join-requires-clause-rising : goal.join-requires-clause-rising
join-requires-clause-rising t c =
    let node = c.open-left.result in
    let balanced = c.open-left.ensures.balanced in
    rw (c.remove-rest.ensures.marks, ← removed-left c.args.bound (marks_in_tree node.left) node.mark (marks_in_tree node.right) balanced.rising (rw c.number.ensures at c.if-bound-number.true)) (SomeMarks-Rising _ _ (SomeMarks-removed c.args.bound _) balanced.rising)

pub join-requires-clause-fits : goal.join-requires-clause-fits
join-requires-clause-fits t c =
    let whole : marks_in_tree c.args.link ≡ marks_in_tree c.open-left.result.left ++ c.open-left.result.mark ∷ marks_in_tree c.open-left.result.right = ap marks_in_tree c.in-Some.is ∙ ap (λ (g : Grown). g.marks) (sym c.deref_mut.ensures.value) ∙ c.open-left.ensures.marks in
    let long = ap (λ (xs : List Mark). length xs) whole in
    let balanced = c.open-left.ensures.balanced in
    omega (arith, height_fits _ _ balanced.tall (omega (arith, long, c.requires.few)), balanced.high, c.remove-rest.ensures.not_higher)

pub returns-then-bound-number-clause-marks : goal.returns-then-bound-number-clause-marks
returns-then-bound-number-clause-marks t c =
    let node = c.open-left.result in
    let whole : marks_in_tree c.args.link ≡ marks_in_tree node.left ++ node.mark ∷ marks_in_tree node.right = ap marks_in_tree c.in-Some.is ∙ ap (λ (g : Grown). g.marks) (sym c.deref_mut.ensures.value) ∙ c.open-left.ensures.marks in
    rw (whole, removed-left c.args.bound (marks_in_tree node.left) node.mark (marks_in_tree node.right) c.open-left.ensures.balanced.rising (rw c.number.ensures at c.if-bound-number.true), ← c.remove-rest.ensures.marks) c.join.ensures.marks

pub join-requires-then-number-bound-clause-rising : goal.join-requires-then-number-bound-clause-rising
join-requires-then-number-bound-clause-rising t c =
    let node = c.open-left.result in
    let balanced = c.open-left.ensures.balanced in
    rw (c.remove-rest-then-number-bound.ensures.marks, ← removed-right c.args.bound (marks_in_tree node.left) node.mark (marks_in_tree node.right) balanced.rising (rw c.number-2.ensures at c.if-number-bound.true)) (SomeMarks-Rising _ _ (SomeMarks-removed c.args.bound _) balanced.rising)

pub join-requires-then-number-bound-clause-fits : goal.join-requires-then-number-bound-clause-fits
join-requires-then-number-bound-clause-fits t c =
    let whole : marks_in_tree c.args.link ≡ marks_in_tree c.open-left.result.left ++ c.open-left.result.mark ∷ marks_in_tree c.open-left.result.right = ap marks_in_tree c.in-Some.is ∙ ap (λ (g : Grown). g.marks) (sym c.deref_mut.ensures.value) ∙ c.open-left.ensures.marks in
    let long = ap (λ (xs : List Mark). length xs) whole in
    let balanced = c.open-left.ensures.balanced in
    omega (arith, height_fits _ _ balanced.tall (omega (arith, long, c.requires.few)), balanced.high, c.remove-rest-then-number-bound.ensures.not_higher)

pub returns-then-number-bound-clause-marks : goal.returns-then-number-bound-clause-marks
returns-then-number-bound-clause-marks t c =
    let node = c.open-left.result in
    let whole : marks_in_tree c.args.link ≡ marks_in_tree node.left ++ node.mark ∷ marks_in_tree node.right = ap marks_in_tree c.in-Some.is ∙ ap (λ (g : Grown). g.marks) (sym c.deref_mut.ensures.value) ∙ c.open-left.ensures.marks in
    rw (whole, removed-right c.args.bound (marks_in_tree node.left) node.mark (marks_in_tree node.right) c.open-left.ensures.balanced.rising (rw c.number-2.ensures at c.if-number-bound.true), ← c.remove-rest-then-number-bound.ensures.marks) c.join-then-number-bound.ensures.marks

pub returns-in_default-right-clause-marks : goal.returns-in_default-right-clause-marks
returns-in_default-right-clause-marks t c =
    let node = c.open-left.result in
    let whole : marks_in_tree c.args.link ≡ marks_in_tree node.left ++ node.mark ∷ marks_in_tree node.right = ap marks_in_tree c.in-Some.is ∙ ap (λ (g : Grown). g.marks) (sym c.deref_mut.ensures.value) ∙ c.open-left.ensures.marks in
    let here : node.mark.bound.0 ≡ c.args.bound = omega (arith, c.number.ensures, c.number-2.ensures, c.if-bound-number.false, c.if-number-bound.false) in
    rw (whole, removed-here c.args.bound (marks_in_tree node.left) node.mark (marks_in_tree node.right) c.open-left.ensures.balanced.rising here, c.in_default-right.is) (sym (append-nil (marks_in_tree node.left)))

pub join-requires-2-clause-rising : goal.join-requires-2-clause-rising
join-requires-2-clause-rising t c =
    let node = c.open-left.result in
    let first = c.take_first-first.result in
    let balanced = c.open-left.ensures.balanced in
    let right : marks_in_tree node.right ≡ first.mark ∷ marks_in_tree first.rest = ap marks_in_tree c.in-Some-right.is ∙ c.take_first-first.ensures.marks in
    let here : node.mark.bound.0 ≡ c.args.bound = omega (arith, c.number.ensures, c.number-2.ensures, c.if-bound-number.false, c.if-number-bound.false) in
    rw (← right, ← removed-here c.args.bound (marks_in_tree node.left) node.mark (marks_in_tree node.right) balanced.rising here) (SomeMarks-Rising _ _ (SomeMarks-removed c.args.bound _) balanced.rising)

pub join-requires-2-clause-fits : goal.join-requires-2-clause-fits
join-requires-2-clause-fits t c =
    let whole : marks_in_tree c.args.link ≡ marks_in_tree c.open-left.result.left ++ c.open-left.result.mark ∷ marks_in_tree c.open-left.result.right = ap marks_in_tree c.in-Some.is ∙ ap (λ (g : Grown). g.marks) (sym c.deref_mut.ensures.value) ∙ c.open-left.ensures.marks in
    let long = ap (λ (xs : List Mark). length xs) whole in
    let balanced = c.open-left.ensures.balanced in
    omega (arith, height_fits _ _ balanced.tall (omega (arith, long, c.requires.few)), balanced.high, ap height_of c.in-Some-right.is, c.take_first-first.ensures.not_higher)

pub returns-clause-marks : goal.returns-clause-marks
returns-clause-marks t c =
    let node = c.open-left.result in
    let first = c.take_first-first.result in
    let whole : marks_in_tree c.args.link ≡ marks_in_tree node.left ++ node.mark ∷ marks_in_tree node.right = ap marks_in_tree c.in-Some.is ∙ ap (λ (g : Grown). g.marks) (sym c.deref_mut.ensures.value) ∙ c.open-left.ensures.marks in
    let right : marks_in_tree node.right ≡ first.mark ∷ marks_in_tree first.rest = ap marks_in_tree c.in-Some-right.is ∙ c.take_first-first.ensures.marks in
    let here : node.mark.bound.0 ≡ c.args.bound = omega (arith, c.number.ensures, c.number-2.ensures, c.if-bound-number.false, c.if-number-bound.false) in
    rw (whole, removed-here c.args.bound (marks_in_tree node.left) node.mark (marks_in_tree node.right) c.open-left.ensures.balanced.rising here, right) c.join-2.ensures.marks
