use Rattle.std.proofs.Common.{◌≡◌, ℕ, List, ◌∷◌, ◌++◌, length, sym, ap, ◌∙◌, arith, length-append}
use Rattle.std.specs.Prelude.{ℤ}
use Rattle.crack_index.specs.Cuts.{StartsRise}
use Rattle.crack_index.specs.SumTrees.{Summed, entries_in_tree}
use Rattle.crack_index.proofs.Sides.{height_fits}
use Rattle.crack_index.proofs.SumSides.{Rises-left, Rises-right, put-left, put-right, end-left, end-right, end-apart}
use Rattle.crack_index.proofs.sum_tree.+insert.Goals as goal

pub insert-left-requires : goal.insert-left-requires
insert-left-requires t c =
    let whole : entries_in_tree c.args.link ≡ entries_in_tree c.open-parts.result.left ++ c.open-parts.result.entry ∷ entries_in_tree c.open-parts.result.right = ap entries_in_tree c.in-Some.is ∙ ap (λ (s : Summed). s.entries) (sym c.deref_mut-2.ensures.value) ∙ c.open-parts.ensures.entries in
    let rises : StartsRise (entries_in_tree c.open-parts.result.left ++ c.open-parts.result.entry ∷ entries_in_tree c.open-parts.result.right) = rw whole at c.requires.rises in
    let long = ap (λ (xs : List (ℕ × ℤ)). length xs) whole in
    let parts = length-append (entries_in_tree c.open-parts.result.left) (c.open-parts.result.entry ∷ entries_in_tree c.open-parts.result.right) in
    (omega (arith, c.decreases, long, parts), (Rises-left (entries_in_tree c.open-parts.result.left) c.open-parts.result.entry (entries_in_tree c.open-parts.result.right) rises, (λ is. c.requires.apart (rw whole (end-left c.args.entry.0 (entries_in_tree c.open-parts.result.left) c.open-parts.result.entry (entries_in_tree c.open-parts.result.right) rises c.if-entry-parts.true is)), omega (arith, long, parts, c.requires.few))))

pub join-requires-clause-fits : goal.join-requires-clause-fits
join-requires-clause-fits t c =
    let whole : entries_in_tree c.args.link ≡ entries_in_tree c.open-parts.result.left ++ c.open-parts.result.entry ∷ entries_in_tree c.open-parts.result.right = ap entries_in_tree c.in-Some.is ∙ ap (λ (s : Summed). s.entries) (sym c.deref_mut-2.ensures.value) ∙ c.open-parts.ensures.entries in
    let long = ap (λ (xs : List (ℕ × ℤ)). length xs) whole in
    let own = ap (λ (xs : List (ℕ × ℤ)). length xs) c.open-parts.ensures.entries in
    omega (arith, height_fits _ _ c.open-parts.ensures.tall (omega (arith, long, own, c.requires.few)), c.open-parts.ensures.high, c.insert-left.ensures.one_higher)

pub insert-right-requires : goal.insert-right-requires
insert-right-requires t c =
    let whole : entries_in_tree c.args.link ≡ entries_in_tree c.open-parts.result.left ++ c.open-parts.result.entry ∷ entries_in_tree c.open-parts.result.right = ap entries_in_tree c.in-Some.is ∙ ap (λ (s : Summed). s.entries) (sym c.deref_mut-2.ensures.value) ∙ c.open-parts.ensures.entries in
    let rises : StartsRise (entries_in_tree c.open-parts.result.left ++ c.open-parts.result.entry ∷ entries_in_tree c.open-parts.result.right) = rw whole at c.requires.rises in
    let long = ap (λ (xs : List (ℕ × ℤ)). length xs) whole in
    let parts = length-append (entries_in_tree c.open-parts.result.left) (c.open-parts.result.entry ∷ entries_in_tree c.open-parts.result.right) in
    (omega (arith, c.decreases, long, parts), (Rises-right (entries_in_tree c.open-parts.result.left) c.open-parts.result.entry (entries_in_tree c.open-parts.result.right) rises, (λ is. c.requires.apart (rw whole (end-right c.args.entry.0 (entries_in_tree c.open-parts.result.left) c.open-parts.result.entry (entries_in_tree c.open-parts.result.right) is)), omega (arith, long, parts, c.requires.few))))

pub join-requires-else-entry-parts-clause-fits : goal.join-requires-else-entry-parts-clause-fits
join-requires-else-entry-parts-clause-fits t c =
    let whole : entries_in_tree c.args.link ≡ entries_in_tree c.open-parts.result.left ++ c.open-parts.result.entry ∷ entries_in_tree c.open-parts.result.right = ap entries_in_tree c.in-Some.is ∙ ap (λ (s : Summed). s.entries) (sym c.deref_mut-2.ensures.value) ∙ c.open-parts.ensures.entries in
    let long = ap (λ (xs : List (ℕ × ℤ)). length xs) whole in
    let own = ap (λ (xs : List (ℕ × ℤ)). length xs) c.open-parts.ensures.entries in
    omega (arith, height_fits _ _ c.open-parts.ensures.tall (omega (arith, long, own, c.requires.few)), c.open-parts.ensures.high, c.insert-right.ensures.one_higher)

pub returns-then-entry-parts-clause-entries : goal.returns-then-entry-parts-clause-entries
returns-then-entry-parts-clause-entries t c =
    let whole : entries_in_tree c.args.link ≡ entries_in_tree c.open-parts.result.left ++ c.open-parts.result.entry ∷ entries_in_tree c.open-parts.result.right = ap entries_in_tree c.in-Some.is ∙ ap (λ (s : Summed). s.entries) (sym c.deref_mut-2.ensures.value) ∙ c.open-parts.ensures.entries in
    rw (whole, put-left c.args.entry.0 c.args.entry.1 (entries_in_tree c.open-parts.result.left) c.open-parts.result.entry (entries_in_tree c.open-parts.result.right) c.if-entry-parts.true) (c.join.ensures.entries ∙ ap (λ (xs : List (ℕ × ℤ)). xs ++ c.open-parts.result.entry ∷ entries_in_tree c.open-parts.result.right) c.insert-left.ensures.entries)

pub returns-else-entry-parts-clause-entries : goal.returns-else-entry-parts-clause-entries
returns-else-entry-parts-clause-entries t c =
    let whole : entries_in_tree c.args.link ≡ entries_in_tree c.open-parts.result.left ++ c.open-parts.result.entry ∷ entries_in_tree c.open-parts.result.right = ap entries_in_tree c.in-Some.is ∙ ap (λ (s : Summed). s.entries) (sym c.deref_mut-2.ensures.value) ∙ c.open-parts.ensures.entries in
    let rises : StartsRise (entries_in_tree c.open-parts.result.left ++ c.open-parts.result.entry ∷ entries_in_tree c.open-parts.result.right) = rw whole at c.requires.rises in
    let above = end-apart c.args.entry.0 (entries_in_tree c.open-parts.result.left) c.open-parts.result.entry (entries_in_tree c.open-parts.result.right) (rw whole at c.requires.apart) (omega (arith, c.if-entry-parts.false)) in
    rw (whole, put-right c.args.entry.0 c.args.entry.1 (entries_in_tree c.open-parts.result.left) c.open-parts.result.entry (entries_in_tree c.open-parts.result.right) rises above) (c.join-else-entry-parts.ensures.entries ∙ ap (λ (xs : List (ℕ × ℤ)). entries_in_tree c.open-parts.result.left ++ c.open-parts.result.entry ∷ xs) c.insert-right.ensures.entries)
