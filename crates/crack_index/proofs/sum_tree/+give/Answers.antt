use Rattle.std.proofs.Common.{◌≡◌, ℕ, List, ◌∷◌, ◌++◌, length, refl, sym, ap, ◌∙◌, arith, rules, length-append}
use Rattle.std.specs.Prelude.{ℤ}
use Rattle.std.specs.Int.{w128}
use Rattle.std.proofs.lemmas.Int.{to_z-of_z}
use Rattle.crack_index.specs.Cuts.{StartsRise, given}
use Rattle.crack_index.specs.SumTrees.{Summed, entries_in_tree}
use Rattle.crack_index.specs.SumKeeps.{levels_of}
use Rattle.crack_index.proofs.SumSides.{Rises-left, Rises-right, given-left, given-right, given-here, IsSummed-given}
use Rattle.crack_index.proofs.sum_tree.+give.Goals as goal
use Rattle.crack_index.proofs.sum_tree.+give.Goals.{then-key-entry, else-key-entry+then-entry-key, else-key-entry+else-entry-key}

pub give-requires : goal.give-requires
give-requires t c =
    let whole : entries_in_tree c.entry.inside.left ++ c.entry.inside.entry ∷ entries_in_tree c.entry.inside.right ≡ entries_in_tree c.args.link.now = ap (λ (s : Summed). s.entries) (c.entry.view_is ∙ c.deref_mut.ensures.value) ∙ sym (ap entries_in_tree c.in-Some.is) in
    let rises : StartsRise (entries_in_tree c.entry.inside.left ++ c.entry.inside.entry ∷ entries_in_tree c.entry.inside.right) = rw (← whole) at c.requires in
    let long = ap (λ (xs : List (ℕ × ℤ)). length xs) whole in
    let parts = length-append (entries_in_tree c.entry.inside.left) (c.entry.inside.entry ∷ entries_in_tree c.entry.inside.right) in
    (omega (arith, c.decreases, long, parts), Rises-left (entries_in_tree c.entry.inside.left) c.entry.inside.entry (entries_in_tree c.entry.inside.right) rises)

pub give-requires-then-entry-key : goal.give-requires-then-entry-key
give-requires-then-entry-key t c =
    let whole : entries_in_tree c.entry.inside.left ++ c.entry.inside.entry ∷ entries_in_tree c.entry.inside.right ≡ entries_in_tree c.args.link.now = ap (λ (s : Summed). s.entries) (c.entry.view_is ∙ c.deref_mut.ensures.value) ∙ sym (ap entries_in_tree c.in-Some.is) in
    let rises : StartsRise (entries_in_tree c.entry.inside.left ++ c.entry.inside.entry ∷ entries_in_tree c.entry.inside.right) = rw (← whole) at c.requires in
    let long = ap (λ (xs : List (ℕ × ℤ)). length xs) whole in
    let parts = length-append (entries_in_tree c.entry.inside.left) (c.entry.inside.entry ∷ entries_in_tree c.entry.inside.right) in
    (omega (arith, c.decreases, long, parts), Rises-right (entries_in_tree c.entry.inside.left) c.entry.inside.entry (entries_in_tree c.entry.inside.right) rises)

pub invariant_of-deref_mut : goal.invariant_of-deref_mut
invariant_of-deref_mut t c =
    let whole : entries_in_tree c.entry.inside.left ++ c.entry.inside.entry ∷ entries_in_tree c.entry.inside.right ≡ entries_in_tree c.args.link.now = ap (λ (s : Summed). s.entries) (c.entry.view_is ∙ c.deref_mut.ensures.value) ∙ sym (ap entries_in_tree c.in-Some.is) in
    let rises : StartsRise (entries_in_tree c.entry.inside.left ++ c.entry.inside.entry ∷ entries_in_tree c.entry.inside.right) = rw (← whole) at c.requires in
    let value = to_z-of_z w128 c.args.sum (search rules) in
    let is : (levels_of c.if-key-entry.left ≡ levels_of c.entry.inside.left) × (levels_of c.if-key-entry.right ≡ levels_of c.entry.inside.right)
    × (entries_in_tree c.if-key-entry.left ++ c.if-key-entry.entry ∷ entries_in_tree c.if-key-entry.right ≡ given c.args.key c.args.sum (entries_in_tree c.entry.inside.left ++ c.entry.inside.entry ∷ entries_in_tree c.entry.inside.right)) = elim c.if-key-entry.branch [
      | then-key-entry w ↦ rw (w.left-is, w.right-is, w.entry-is, w.give.ensures.height, w.give.ensures.entries, value) (refl, refl, sym (given-left c.args.key c.args.sum (entries_in_tree c.entry.inside.left) c.entry.inside.entry (entries_in_tree c.entry.inside.right) rises w.if-key-entry.true))
      | else-key-entry+then-entry-key w ↦ rw (w.left-is, w.right-is, w.entry-is, w.give-then-entry-key.ensures.height, w.give-then-entry-key.ensures.entries, value) (refl, refl, sym (given-right c.args.key c.args.sum (entries_in_tree c.entry.inside.left) c.entry.inside.entry (entries_in_tree c.entry.inside.right) rises w.if-entry-key.true))
      | else-key-entry+else-entry-key w ↦ rw (w.left-is, w.right-is, w.entry-is, value) (refl, refl, sym (given-here c.args.key c.args.sum (entries_in_tree c.entry.inside.left) c.entry.inside.entry (entries_in_tree c.entry.inside.right) rises (omega (arith, w.if-key-entry.false, w.if-entry-key.false))))
    ] in
    let total = to_z-of_z w128 c.total_over.result (search rules) in
    let own = to_z-of_z w128 c.if-key-entry.entry.1 (search rules) in
    rw total (IsSummed-given c.args.key c.args.sum c.entry.inside.left c.if-key-entry.left c.entry.inside.right c.if-key-entry.right c.entry.inside.entry c.if-key-entry.entry c.entry.inside.total c.total_over.result c.entry.inside.height is.0 is.1 is.2 (rw own at (c.total_over.ensures c.if-key-entry.entry.0)) c.entry.invariant)

pub returns-clause-entries : goal.returns-clause-entries
returns-clause-entries t c =
    let whole : entries_in_tree c.entry.inside.left ++ c.entry.inside.entry ∷ entries_in_tree c.entry.inside.right ≡ entries_in_tree c.args.link.now = ap (λ (s : Summed). s.entries) (c.entry.view_is ∙ c.deref_mut.ensures.value) ∙ sym (ap entries_in_tree c.in-Some.is) in
    let rises : StartsRise (entries_in_tree c.entry.inside.left ++ c.entry.inside.entry ∷ entries_in_tree c.entry.inside.right) = rw (← whole) at c.requires in
    let value = to_z-of_z w128 c.args.sum (search rules) in
    let is : (levels_of c.if-key-entry.left ≡ levels_of c.entry.inside.left) × (levels_of c.if-key-entry.right ≡ levels_of c.entry.inside.right)
    × (entries_in_tree c.if-key-entry.left ++ c.if-key-entry.entry ∷ entries_in_tree c.if-key-entry.right ≡ given c.args.key c.args.sum (entries_in_tree c.entry.inside.left ++ c.entry.inside.entry ∷ entries_in_tree c.entry.inside.right)) = elim c.if-key-entry.branch [
      | then-key-entry w ↦ rw (w.left-is, w.right-is, w.entry-is, w.give.ensures.height, w.give.ensures.entries, value) (refl, refl, sym (given-left c.args.key c.args.sum (entries_in_tree c.entry.inside.left) c.entry.inside.entry (entries_in_tree c.entry.inside.right) rises w.if-key-entry.true))
      | else-key-entry+then-entry-key w ↦ rw (w.left-is, w.right-is, w.entry-is, w.give-then-entry-key.ensures.height, w.give-then-entry-key.ensures.entries, value) (refl, refl, sym (given-right c.args.key c.args.sum (entries_in_tree c.entry.inside.left) c.entry.inside.entry (entries_in_tree c.entry.inside.right) rises w.if-entry-key.true))
      | else-key-entry+else-entry-key w ↦ rw (w.left-is, w.right-is, w.entry-is, value) (refl, refl, sym (given-here c.args.key c.args.sum (entries_in_tree c.entry.inside.left) c.entry.inside.entry (entries_in_tree c.entry.inside.right) rises (omega (arith, w.if-key-entry.false, w.if-entry-key.false))))
    ] in
    rw (← whole) is.2
