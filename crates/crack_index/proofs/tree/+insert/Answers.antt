use Rattle.std.proofs.Common.{◌≡◌, ◌∷◌, ◌++◌, List, length, sym, ap, ◌∙◌, arith, length-append}
use Rattle.crack_index.specs.declared.mark.Mark.{Mark}
use Rattle.crack_index.specs.Marks.{Rising, with_mark}
use Rattle.crack_index.specs.Trees.{Grown, marks_in_tree}
use Rattle.crack_index.proofs.Sides.{Rising-front, Rising-right, added-left, added-right, height_fits}
use Rattle.crack_index.proofs.tree.+insert.Goals as goal

pub insert-left-requires : goal.insert-left-requires
insert-left-requires t c =
    let whole : marks_in_tree c.args.link ≡ marks_in_tree c.open-parts.result.left ++ c.open-parts.result.mark ∷ marks_in_tree c.open-parts.result.right = ap marks_in_tree c.in-Some.is ∙ ap (λ (g : Grown). g.marks) (sym c.deref_mut-2.ensures.value) ∙ c.open-parts.ensures.marks in
    let long = ap (λ (xs : List Mark). length xs) whole in let parts = length-append (marks_in_tree c.open-parts.result.left) (c.open-parts.result.mark ∷ (marks_in_tree c.open-parts.result.right)) in
    let order : Rising (with_mark c.args.mark (marks_in_tree c.open-parts.result.left) ++ c.open-parts.result.mark ∷ (marks_in_tree c.open-parts.result.right)) = rw (whole, added-left c.args.mark (marks_in_tree c.open-parts.result.left) c.open-parts.result.mark (marks_in_tree c.open-parts.result.right) (rw (c.number.ensures, c.number-2.ensures) at c.if-number.true)) at c.requires.rising in
    (omega (arith, c.decreases, long, parts), (Rising-front (with_mark c.args.mark (marks_in_tree c.open-parts.result.left)) (c.open-parts.result.mark ∷ (marks_in_tree c.open-parts.result.right)) order, omega (arith, long, parts, c.requires.few)))

pub join-requires-clause-rising : goal.join-requires-clause-rising
join-requires-clause-rising t c =
    let whole : marks_in_tree c.args.link ≡ marks_in_tree c.open-parts.result.left ++ c.open-parts.result.mark ∷ marks_in_tree c.open-parts.result.right = ap marks_in_tree c.in-Some.is ∙ ap (λ (g : Grown). g.marks) (sym c.deref_mut-2.ensures.value) ∙ c.open-parts.ensures.marks in
    rw c.insert-left.ensures.marks (rw (whole, added-left c.args.mark (marks_in_tree c.open-parts.result.left) c.open-parts.result.mark (marks_in_tree c.open-parts.result.right) (rw (c.number.ensures, c.number-2.ensures) at c.if-number.true)) at c.requires.rising)

pub insert-right-requires : goal.insert-right-requires
insert-right-requires t c =
    let whole : marks_in_tree c.args.link ≡ marks_in_tree c.open-parts.result.left ++ c.open-parts.result.mark ∷ marks_in_tree c.open-parts.result.right = ap marks_in_tree c.in-Some.is ∙ ap (λ (g : Grown). g.marks) (sym c.deref_mut-2.ensures.value) ∙ c.open-parts.ensures.marks in
    let long = ap (λ (xs : List Mark). length xs) whole in let parts = length-append (marks_in_tree c.open-parts.result.left) (c.open-parts.result.mark ∷ (marks_in_tree c.open-parts.result.right)) in
    let rising : Rising (marks_in_tree c.open-parts.result.left ++ c.open-parts.result.mark ∷ marks_in_tree c.open-parts.result.right) = c.open-parts.ensures.balanced.rising in
    let order : Rising ((marks_in_tree c.open-parts.result.left) ++ c.open-parts.result.mark ∷ with_mark c.args.mark (marks_in_tree c.open-parts.result.right)) = rw (whole, added-right c.args.mark (marks_in_tree c.open-parts.result.left) c.open-parts.result.mark (marks_in_tree c.open-parts.result.right) rising (rw (c.number.ensures, c.number-2.ensures) at c.if-number.false)) at c.requires.rising in
    (omega (arith, c.decreases, long, parts), (Rising-right (marks_in_tree c.open-parts.result.left) c.open-parts.result.mark (with_mark c.args.mark (marks_in_tree c.open-parts.result.right)) order, omega (arith, long, parts, c.requires.few)))

pub join-requires-else-number-clause-rising : goal.join-requires-else-number-clause-rising
join-requires-else-number-clause-rising t c =
    let whole : marks_in_tree c.args.link ≡ marks_in_tree c.open-parts.result.left ++ c.open-parts.result.mark ∷ marks_in_tree c.open-parts.result.right = ap marks_in_tree c.in-Some.is ∙ ap (λ (g : Grown). g.marks) (sym c.deref_mut-2.ensures.value) ∙ c.open-parts.ensures.marks in
    let rising : Rising (marks_in_tree c.open-parts.result.left ++ c.open-parts.result.mark ∷ marks_in_tree c.open-parts.result.right) = c.open-parts.ensures.balanced.rising in
    rw c.insert-right.ensures.marks (rw (whole, added-right c.args.mark (marks_in_tree c.open-parts.result.left) c.open-parts.result.mark (marks_in_tree c.open-parts.result.right) rising (rw (c.number.ensures, c.number-2.ensures) at c.if-number.false)) at c.requires.rising)

pub returns-then-number-clause-marks : goal.returns-then-number-clause-marks
returns-then-number-clause-marks t c =
    let whole : marks_in_tree c.args.link ≡ marks_in_tree c.open-parts.result.left ++ c.open-parts.result.mark ∷ marks_in_tree c.open-parts.result.right = ap marks_in_tree c.in-Some.is ∙ ap (λ (g : Grown). g.marks) (sym c.deref_mut-2.ensures.value) ∙ c.open-parts.ensures.marks in
    rw (whole, added-left c.args.mark (marks_in_tree c.open-parts.result.left) c.open-parts.result.mark (marks_in_tree c.open-parts.result.right) (rw (c.number.ensures, c.number-2.ensures) at c.if-number.true)) (c.join.ensures.marks ∙ ap (λ (xs : List Mark). xs ++ c.open-parts.result.mark ∷ (marks_in_tree c.open-parts.result.right)) c.insert-left.ensures.marks)

pub returns-else-number-clause-marks : goal.returns-else-number-clause-marks
returns-else-number-clause-marks t c =
    let whole : marks_in_tree c.args.link ≡ marks_in_tree c.open-parts.result.left ++ c.open-parts.result.mark ∷ marks_in_tree c.open-parts.result.right = ap marks_in_tree c.in-Some.is ∙ ap (λ (g : Grown). g.marks) (sym c.deref_mut-2.ensures.value) ∙ c.open-parts.ensures.marks in
    let rising : Rising (marks_in_tree c.open-parts.result.left ++ c.open-parts.result.mark ∷ marks_in_tree c.open-parts.result.right) = c.open-parts.ensures.balanced.rising in
    rw (whole, added-right c.args.mark (marks_in_tree c.open-parts.result.left) c.open-parts.result.mark (marks_in_tree c.open-parts.result.right) rising (rw (c.number.ensures, c.number-2.ensures) at c.if-number.false)) (c.join-else-number.ensures.marks ∙ ap (λ (xs : List Mark). (marks_in_tree c.open-parts.result.left) ++ c.open-parts.result.mark ∷ xs) c.insert-right.ensures.marks)

pub join-requires-clause-fits : goal.join-requires-clause-fits
join-requires-clause-fits t c =
    let whole : marks_in_tree c.args.link ≡ marks_in_tree c.open-parts.result.left ++ c.open-parts.result.mark ∷ marks_in_tree c.open-parts.result.right = ap marks_in_tree c.in-Some.is ∙ ap (λ (g : Grown). g.marks) (sym c.deref_mut-2.ensures.value) ∙ c.open-parts.ensures.marks in
    let long = ap (λ (xs : List Mark). length xs) whole in
    let balanced = c.open-parts.ensures.balanced in
    omega (arith, height_fits _ _ balanced.tall (omega (arith, long, c.requires.few)), balanced.high, c.insert-left.ensures.one_higher)

pub join-requires-else-number-clause-fits : goal.join-requires-else-number-clause-fits
join-requires-else-number-clause-fits t c =
    let whole : marks_in_tree c.args.link ≡ marks_in_tree c.open-parts.result.left ++ c.open-parts.result.mark ∷ marks_in_tree c.open-parts.result.right = ap marks_in_tree c.in-Some.is ∙ ap (λ (g : Grown). g.marks) (sym c.deref_mut-2.ensures.value) ∙ c.open-parts.ensures.marks in
    let long = ap (λ (xs : List Mark). length xs) whole in
    let balanced = c.open-parts.ensures.balanced in
    omega (arith, height_fits _ _ balanced.tall (omega (arith, long, c.requires.few)), balanced.high, c.insert-right.ensures.one_higher)
