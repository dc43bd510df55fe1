use Rattle.std.proofs.Common.{◌≡◌, ℕ, List, ◌∷◌, ◌++◌, append-nil, length, sym, ap, ◌∙◌, arith, length-append}
use Rattle.std.specs.Prelude.{ℤ}
use Rattle.crack_index.specs.Cuts.{StartsRise}
use Rattle.crack_index.specs.SumTrees.{Summed, entries_in_tree}
use Rattle.crack_index.specs.SumKeeps.{levels_of}
use Rattle.crack_index.proofs.Sides.{height_fits}
use Rattle.crack_index.proofs.SumSides.{Rises-left, Rises-right, dropped-left, dropped-right, dropped-here}
use Rattle.crack_index.proofs.sum_tree.+remove.Goals as goal

pub remove-rest-requires : goal.remove-rest-requires
remove-rest-requires t c =
    let whole : entries_in_tree c.args.link ≡ entries_in_tree c.open-left.result.left ++ c.open-left.result.entry ∷ entries_in_tree c.open-left.result.right = ap entries_in_tree c.in-Some.is ∙ ap (λ (s : Summed). s.entries) (sym c.deref_mut.ensures.value) ∙ c.open-left.ensures.entries in
    let rises : StartsRise (entries_in_tree c.open-left.result.left ++ c.open-left.result.entry ∷ entries_in_tree c.open-left.result.right) = rw whole at c.requires.rises in
    let long = ap (λ (xs : List (ℕ × ℤ)). length xs) whole in
    let parts = length-append (entries_in_tree c.open-left.result.left) (c.open-left.result.entry ∷ entries_in_tree c.open-left.result.right) in
    (omega (arith, c.decreases, long, parts), (Rises-left (entries_in_tree c.open-left.result.left) c.open-left.result.entry (entries_in_tree c.open-left.result.right) rises, omega (arith, long, parts, c.requires.few)))

pub join-requires-clause-fits : goal.join-requires-clause-fits
join-requires-clause-fits t c =
    let whole : entries_in_tree c.args.link ≡ entries_in_tree c.open-left.result.left ++ c.open-left.result.entry ∷ entries_in_tree c.open-left.result.right = ap entries_in_tree c.in-Some.is ∙ ap (λ (s : Summed). s.entries) (sym c.deref_mut.ensures.value) ∙ c.open-left.ensures.entries in
    let long = ap (λ (xs : List (ℕ × ℤ)). length xs) whole in
    let own = ap (λ (xs : List (ℕ × ℤ)). length xs) c.open-left.ensures.entries in
    omega (arith, height_fits _ _ c.open-left.ensures.tall (omega (arith, long, own, c.requires.few)), c.open-left.ensures.high, c.remove-rest.ensures.not_higher)

pub returns-then-key-entry-clause-entries : goal.returns-then-key-entry-clause-entries
returns-then-key-entry-clause-entries t c =
    let whole : entries_in_tree c.args.link ≡ entries_in_tree c.open-left.result.left ++ c.open-left.result.entry ∷ entries_in_tree c.open-left.result.right = ap entries_in_tree c.in-Some.is ∙ ap (λ (s : Summed). s.entries) (sym c.deref_mut.ensures.value) ∙ c.open-left.ensures.entries in
    let rises : StartsRise (entries_in_tree c.open-left.result.left ++ c.open-left.result.entry ∷ entries_in_tree c.open-left.result.right) = rw whole at c.requires.rises in
    rw (whole, dropped-left c.args.key (entries_in_tree c.open-left.result.left) c.open-left.result.entry (entries_in_tree c.open-left.result.right) rises c.if-key-entry.true, ← c.remove-rest.ensures.entries) c.join.ensures.entries

pub remove-rest-requires-then-entry-key : goal.remove-rest-requires-then-entry-key
remove-rest-requires-then-entry-key t c =
    let whole : entries_in_tree c.args.link ≡ entries_in_tree c.open-left.result.left ++ c.open-left.result.entry ∷ entries_in_tree c.open-left.result.right = ap entries_in_tree c.in-Some.is ∙ ap (λ (s : Summed). s.entries) (sym c.deref_mut.ensures.value) ∙ c.open-left.ensures.entries in
    let rises : StartsRise (entries_in_tree c.open-left.result.left ++ c.open-left.result.entry ∷ entries_in_tree c.open-left.result.right) = rw whole at c.requires.rises in
    let long = ap (λ (xs : List (ℕ × ℤ)). length xs) whole in
    let parts = length-append (entries_in_tree c.open-left.result.left) (c.open-left.result.entry ∷ entries_in_tree c.open-left.result.right) in
    (omega (arith, c.decreases, long, parts), (Rises-right (entries_in_tree c.open-left.result.left) c.open-left.result.entry (entries_in_tree c.open-left.result.right) rises, omega (arith, long, parts, c.requires.few)))

pub join-requires-then-entry-key-clause-fits : goal.join-requires-then-entry-key-clause-fits
join-requires-then-entry-key-clause-fits t c =
    let whole : entries_in_tree c.args.link ≡ entries_in_tree c.open-left.result.left ++ c.open-left.result.entry ∷ entries_in_tree c.open-left.result.right = ap entries_in_tree c.in-Some.is ∙ ap (λ (s : Summed). s.entries) (sym c.deref_mut.ensures.value) ∙ c.open-left.ensures.entries in
    let long = ap (λ (xs : List (ℕ × ℤ)). length xs) whole in
    let own = ap (λ (xs : List (ℕ × ℤ)). length xs) c.open-left.ensures.entries in
    omega (arith, height_fits _ _ c.open-left.ensures.tall (omega (arith, long, own, c.requires.few)), c.open-left.ensures.high, c.remove-rest-then-entry-key.ensures.not_higher)

pub returns-then-entry-key-clause-entries : goal.returns-then-entry-key-clause-entries
returns-then-entry-key-clause-entries t c =
    let whole : entries_in_tree c.args.link ≡ entries_in_tree c.open-left.result.left ++ c.open-left.result.entry ∷ entries_in_tree c.open-left.result.right = ap entries_in_tree c.in-Some.is ∙ ap (λ (s : Summed). s.entries) (sym c.deref_mut.ensures.value) ∙ c.open-left.ensures.entries in
    let rises : StartsRise (entries_in_tree c.open-left.result.left ++ c.open-left.result.entry ∷ entries_in_tree c.open-left.result.right) = rw whole at c.requires.rises in
    rw (whole, dropped-right c.args.key (entries_in_tree c.open-left.result.left) c.open-left.result.entry (entries_in_tree c.open-left.result.right) rises c.if-entry-key.true, ← c.remove-rest-then-entry-key.ensures.entries) c.join-then-entry-key.ensures.entries

pub returns-in_default-right-clause-entries : goal.returns-in_default-right-clause-entries
returns-in_default-right-clause-entries t c =
    let whole : entries_in_tree c.args.link ≡ entries_in_tree c.open-left.result.left ++ c.open-left.result.entry ∷ entries_in_tree c.open-left.result.right = ap entries_in_tree c.in-Some.is ∙ ap (λ (s : Summed). s.entries) (sym c.deref_mut.ensures.value) ∙ c.open-left.ensures.entries in
    let rises : StartsRise (entries_in_tree c.open-left.result.left ++ c.open-left.result.entry ∷ entries_in_tree c.open-left.result.right) = rw whole at c.requires.rises in
    let here : c.args.key ≡ c.open-left.result.entry.0 = omega (arith, c.if-key-entry.false, c.if-entry-key.false) in
    rw (whole, dropped-here c.args.key (entries_in_tree c.open-left.result.left) c.open-left.result.entry (entries_in_tree c.open-left.result.right) rises here, c.in_default-right.is) (sym (append-nil (entries_in_tree c.open-left.result.left)))

pub join-requires-2-clause-fits : goal.join-requires-2-clause-fits
join-requires-2-clause-fits t c =
    let whole : entries_in_tree c.args.link ≡ entries_in_tree c.open-left.result.left ++ c.open-left.result.entry ∷ entries_in_tree c.open-left.result.right = ap entries_in_tree c.in-Some.is ∙ ap (λ (s : Summed). s.entries) (sym c.deref_mut.ensures.value) ∙ c.open-left.ensures.entries in
    let long = ap (λ (xs : List (ℕ × ℤ)). length xs) whole in
    let own = ap (λ (xs : List (ℕ × ℤ)). length xs) c.open-left.ensures.entries in
    omega (arith, height_fits _ _ c.open-left.ensures.tall (omega (arith, long, own, c.requires.few)), c.open-left.ensures.high, ap levels_of c.in-Some-right.is, c.take_first-first.ensures.not_higher)

pub returns-clause-entries : goal.returns-clause-entries
returns-clause-entries t c =
    let whole : entries_in_tree c.args.link ≡ entries_in_tree c.open-left.result.left ++ c.open-left.result.entry ∷ entries_in_tree c.open-left.result.right = ap entries_in_tree c.in-Some.is ∙ ap (λ (s : Summed). s.entries) (sym c.deref_mut.ensures.value) ∙ c.open-left.ensures.entries in
    let rises : StartsRise (entries_in_tree c.open-left.result.left ++ c.open-left.result.entry ∷ entries_in_tree c.open-left.result.right) = rw whole at c.requires.rises in
    let here : c.args.key ≡ c.open-left.result.entry.0 = omega (arith, c.if-key-entry.false, c.if-entry-key.false) in
    let right : entries_in_tree c.open-left.result.right ≡ c.take_first-first.result.entry ∷ entries_in_tree c.take_first-first.result.rest = ap entries_in_tree c.in-Some-right.is ∙ c.take_first-first.ensures.entries in
    rw (whole, dropped-here c.args.key (entries_in_tree c.open-left.result.left) c.open-left.result.entry (entries_in_tree c.open-left.result.right) rises here, right) c.join-2.ensures.entries
