use Rattle.std.proofs.Common.{◌≡◌, ◌∷◌, ◌++◌, ◌+◌, sym, ap, ◌∙◌, arith, rules, to_z}
use Rattle.std.specs.Int.{w128}
use Rattle.std.proofs.lemmas.Int.{to_z-of_z}
use Rattle.crack_index.specs.Sums.{both}
use Rattle.crack_index.specs.Cuts.{StartsRise, span}
use Rattle.crack_index.specs.SumTrees.{Summed, entries_in_tree}
use Rattle.crack_index.specs.SumKeeps.{inside}
use Rattle.crack_index.proofs.SumSides.{Rises-left, Rises-right, inside-left, inside-to}
use Rattle.crack_index.proofs.SumTotals.{before-step}
use Rattle.crack_index.proofs.sum_tree.total_to.Goals as goal

pub down-preserved-then-last-entry : goal.down-preserved-then-last-entry
down-preserved-then-last-entry c =
    let whole : entries_in_tree c.deref-in-Some.inside.left ++ c.deref-in-Some.inside.entry ∷ entries_in_tree c.deref-in-Some.inside.right ≡ entries_in_tree c.down.here.now = ap (λ (s : Summed). s.entries) (c.deref-in-Some.view_is ∙ c.deref.ensures) ∙ sym (ap entries_in_tree c.in-Some.is) in
    let rises : StartsRise (entries_in_tree c.deref-in-Some.inside.left ++ c.deref-in-Some.inside.entry ∷ entries_in_tree c.deref-in-Some.inside.right) = rw (← whole) at c.down.invariant.0 in
    (Rises-left (entries_in_tree c.deref-in-Some.inside.left) c.deref-in-Some.inside.entry (entries_in_tree c.deref-in-Some.inside.right) rises, rw (← whole, inside-left 0 (c.args.last + 1) (entries_in_tree c.deref-in-Some.inside.left) c.deref-in-Some.inside.entry (entries_in_tree c.deref-in-Some.inside.right) rises (omega (arith, c.if-last-entry.true))) at c.down.invariant.1)

pub down-preserved : goal.down-preserved
down-preserved c =
    let whole : entries_in_tree c.deref-in-Some.inside.left ++ c.deref-in-Some.inside.entry ∷ entries_in_tree c.deref-in-Some.inside.right ≡ entries_in_tree c.down.here.now = ap (λ (s : Summed). s.entries) (c.deref-in-Some.view_is ∙ c.deref.ensures) ∙ sym (ap entries_in_tree c.in-Some.is) in
    let rises : StartsRise (entries_in_tree c.deref-in-Some.inside.left ++ c.deref-in-Some.inside.entry ∷ entries_in_tree c.deref-in-Some.inside.right) = rw (← whole) at c.down.invariant.0 in
    let entry = to_z-of_z w128 c.deref-in-Some.inside.entry.1 (search rules) in
    let side = to_z-of_z w128 c.total.result (search rules) in
    let inner = to_z-of_z w128 c.whole.result (search rules) in
    let outer = to_z-of_z w128 c.whole-sum.result (search rules) in
    let is : c.whole-sum.result ≡ both (both (to_z w128 c.down.sum-bits) c.total.result) c.deref-in-Some.inside.entry.1 = rw (inner, c.whole.ensures, entry, side) at c.whole-sum.ensures in (
      Rises-right (entries_in_tree c.deref-in-Some.inside.left) c.deref-in-Some.inside.entry (entries_in_tree c.deref-in-Some.inside.right) rises,
      rw (outer, is) (before-step (inside (span 0 c.args.last) (entries_in_tree c.args.link.now)) (entries_in_tree c.deref-in-Some.inside.left) (inside (span 0 c.args.last) (entries_in_tree c.deref-in-Some.inside.right)) c.deref-in-Some.inside.entry c.total.result (to_z w128 c.down.sum-bits) c.total.ensures
          (rw (← whole, inside-to (c.args.last + 1) (entries_in_tree c.deref-in-Some.inside.left) c.deref-in-Some.inside.entry (entries_in_tree c.deref-in-Some.inside.right) rises (omega (arith, c.if-last-entry.false))) at c.down.invariant.1)),
    )
