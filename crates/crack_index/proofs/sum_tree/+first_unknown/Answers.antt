use Rattle.std.proofs.Common.{◌≡◌, ℕ, List, ◌∷◌, ◌++◌, length, sym, ap, ◌∙◌, arith, rules, to_z, of_z, length-append}
use Rattle.std.specs.Prelude.{ℤ}
use Rattle.std.specs.Int.{w128}
use Rattle.std.proofs.lemmas.Int.{to_z-of_z}
use Rattle.crack_index.specs.declared.sums.TheConstants.{UNKNOWN}
use Rattle.crack_index.specs.Sums.{IsKnown}
use Rattle.crack_index.specs.Cuts.{StartsRise}
use Rattle.crack_index.specs.SumTrees.{Summed, entries_in_tree}
use Rattle.crack_index.proofs.SumSides.{Rises-left, Rises-right, unknown-known, unknown-right, unknown-left, unknown-here, unknown-past}
use Rattle.crack_index.proofs.sum_tree.+first_unknown.Goals as goal

pub returns-then-total : goal.returns-then-total
returns-then-total t c =
    let whole : entries_in_tree c.deref-2.inside.left ++ c.deref-2.inside.entry ∷ entries_in_tree c.deref-2.inside.right ≡ entries_in_tree c.args.link.now = ap (λ (s : Summed). s.entries) (c.deref-2.view_is ∙ c.deref.ensures) ∙ sym (ap entries_in_tree c.in-Some.is) in
    let known : IsKnown c.deref-2.inside.total = λ is. c.if-total.true (ap (of_z w128) is) in
    rw (← whole) (sym (unknown-known c.args.first (entries_in_tree c.deref-2.inside.left ++ c.deref-2.inside.entry ∷ entries_in_tree c.deref-2.inside.right) (c.deref-2.invariant.summed.right known).0))

pub first_unknown-requires : goal.first_unknown-requires
first_unknown-requires t c =
    let whole : entries_in_tree c.deref-2.inside.left ++ c.deref-2.inside.entry ∷ entries_in_tree c.deref-2.inside.right ≡ entries_in_tree c.args.link.now = ap (λ (s : Summed). s.entries) (c.deref-2.view_is ∙ c.deref.ensures) ∙ sym (ap entries_in_tree c.in-Some.is) in
    let rises : StartsRise (entries_in_tree c.deref-2.inside.left ++ c.deref-2.inside.entry ∷ entries_in_tree c.deref-2.inside.right) = rw (← whole) at c.requires in
    let long = ap (λ (xs : List (ℕ × ℤ)). length xs) whole in
    let parts = length-append (entries_in_tree c.deref-2.inside.left) (c.deref-2.inside.entry ∷ entries_in_tree c.deref-2.inside.right) in
    (omega (arith, c.decreases, long, parts), Rises-right (entries_in_tree c.deref-2.inside.left) c.deref-2.inside.entry (entries_in_tree c.deref-2.inside.right) rises)

pub returns-then-entry-first : goal.returns-then-entry-first
returns-then-entry-first t c =
    let whole : entries_in_tree c.deref-2.inside.left ++ c.deref-2.inside.entry ∷ entries_in_tree c.deref-2.inside.right ≡ entries_in_tree c.args.link.now = ap (λ (s : Summed). s.entries) (c.deref-2.view_is ∙ c.deref.ensures) ∙ sym (ap entries_in_tree c.in-Some.is) in
    let rises : StartsRise (entries_in_tree c.deref-2.inside.left ++ c.deref-2.inside.entry ∷ entries_in_tree c.deref-2.inside.right) = rw (← whole) at c.requires in
    rw (← whole, unknown-right c.args.first (entries_in_tree c.deref-2.inside.left) c.deref-2.inside.entry (entries_in_tree c.deref-2.inside.right) rises c.if-entry-first.true) c.first_unknown.ensures

pub first_unknown-requires-2 : goal.first_unknown-requires-2
first_unknown-requires-2 t c =
    let whole : entries_in_tree c.deref-2.inside.left ++ c.deref-2.inside.entry ∷ entries_in_tree c.deref-2.inside.right ≡ entries_in_tree c.args.link.now = ap (λ (s : Summed). s.entries) (c.deref-2.view_is ∙ c.deref.ensures) ∙ sym (ap entries_in_tree c.in-Some.is) in
    let rises : StartsRise (entries_in_tree c.deref-2.inside.left ++ c.deref-2.inside.entry ∷ entries_in_tree c.deref-2.inside.right) = rw (← whole) at c.requires in
    let long = ap (λ (xs : List (ℕ × ℤ)). length xs) whole in
    let parts = length-append (entries_in_tree c.deref-2.inside.left) (c.deref-2.inside.entry ∷ entries_in_tree c.deref-2.inside.right) in
    (omega (arith, c.decreases, long, parts), Rises-left (entries_in_tree c.deref-2.inside.left) c.deref-2.inside.entry (entries_in_tree c.deref-2.inside.right) rises)

pub returns-in-Some-first_unknown : goal.returns-in-Some-first_unknown
returns-in-Some-first_unknown t c =
    let whole : entries_in_tree c.deref-2.inside.left ++ c.deref-2.inside.entry ∷ entries_in_tree c.deref-2.inside.right ≡ entries_in_tree c.args.link.now = ap (λ (s : Summed). s.entries) (c.deref-2.view_is ∙ c.deref.ensures) ∙ sym (ap entries_in_tree c.in-Some.is) in
    rw (← whole) (unknown-left c.args.first (entries_in_tree c.deref-2.inside.left) c.deref-2.inside.entry (entries_in_tree c.deref-2.inside.right) c.in-Some-first_unknown.start (sym c.in-Some-first_unknown.is ∙ c.first_unknown-2.ensures))

pub returns-then-entry : goal.returns-then-entry
returns-then-entry t c =
    let whole : entries_in_tree c.deref-2.inside.left ++ c.deref-2.inside.entry ∷ entries_in_tree c.deref-2.inside.right ≡ entries_in_tree c.args.link.now = ap (λ (s : Summed). s.entries) (c.deref-2.view_is ∙ c.deref.ensures) ∙ sym (ap entries_in_tree c.in-Some.is) in
    let unknown : c.deref-2.inside.entry.1 ≡ UNKNOWN = sym (to_z-of_z w128 c.deref-2.inside.entry.1 (search rules)) ∙ ap (to_z w128) c.if-entry.true in
    rw (← whole) (unknown-here c.args.first (entries_in_tree c.deref-2.inside.left) c.deref-2.inside.entry (entries_in_tree c.deref-2.inside.right) (sym c.in_default-first_unknown.is ∙ c.first_unknown-2.ensures) (omega (arith, c.if-entry-first.false)) unknown)

pub first_unknown-requires-3 : goal.first_unknown-requires-3
first_unknown-requires-3 t c =
    let whole : entries_in_tree c.deref-2.inside.left ++ c.deref-2.inside.entry ∷ entries_in_tree c.deref-2.inside.right ≡ entries_in_tree c.args.link.now = ap (λ (s : Summed). s.entries) (c.deref-2.view_is ∙ c.deref.ensures) ∙ sym (ap entries_in_tree c.in-Some.is) in
    let rises : StartsRise (entries_in_tree c.deref-2.inside.left ++ c.deref-2.inside.entry ∷ entries_in_tree c.deref-2.inside.right) = rw (← whole) at c.requires in
    let long = ap (λ (xs : List (ℕ × ℤ)). length xs) whole in
    let parts = length-append (entries_in_tree c.deref-2.inside.left) (c.deref-2.inside.entry ∷ entries_in_tree c.deref-2.inside.right) in
    (omega (arith, c.decreases, long, parts), Rises-right (entries_in_tree c.deref-2.inside.left) c.deref-2.inside.entry (entries_in_tree c.deref-2.inside.right) rises)

pub returns : goal.returns
returns t c =
    let whole : entries_in_tree c.deref-2.inside.left ++ c.deref-2.inside.entry ∷ entries_in_tree c.deref-2.inside.right ≡ entries_in_tree c.args.link.now = ap (λ (s : Summed). s.entries) (c.deref-2.view_is ∙ c.deref.ensures) ∙ sym (ap entries_in_tree c.in-Some.is) in
    let known : IsKnown c.deref-2.inside.entry.1 = λ is. c.if-entry.false (ap (of_z w128) is) in
    rw (← whole) (c.first_unknown-3.ensures ∙ unknown-past c.args.first (entries_in_tree c.deref-2.inside.left) c.deref-2.inside.entry (entries_in_tree c.deref-2.inside.right) (sym c.in_default-first_unknown.is ∙ c.first_unknown-2.ensures) known)
