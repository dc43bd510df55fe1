use Rattle.std.proofs.Common.{◌≡◌, ◌∷◌, ◌++◌, sym, ap, ◌∙◌, arith, rules, to_z}
use Rattle.std.specs.Int.{w128}
use Rattle.std.proofs.lemmas.Int.{to_z-of_z}
use Rattle.crack_row.specs.declared.TheConstants.{GREATEST_BOUND}
use Rattle.crack_index.specs.Sums.{both}
use Rattle.crack_index.specs.Cuts.{StartsRise}
use Rattle.crack_index.specs.SumTrees.{Summed, entries_in_tree}
use Rattle.crack_index.specs.SumKeeps.{inside}
use Rattle.crack_index.proofs.SumSides.{Rises-left, Rises-right, inside-right, inside-from}
use Rattle.crack_index.proofs.SumTotals.{behind-step}
use Rattle.crack_index.proofs.sum_tree.total_from.Goals as goal

pub down-preserved-then-entry-first : goal.down-preserved-then-entry-first
down-preserved-then-entry-first c =
    let whole : entries_in_tree c.deref-in-Some.inside.left ++ c.deref-in-Some.inside.entry ∷ entries_in_tree c.deref-in-Some.inside.right ≡ entries_in_tree c.down.here.now = ap (λ (s : Summed). s.entries) (c.deref-in-Some.view_is ∙ c.deref.ensures) ∙ sym (ap entries_in_tree c.in-Some.is) in
    let rises : StartsRise (entries_in_tree c.deref-in-Some.inside.left ++ c.deref-in-Some.inside.entry ∷ entries_in_tree c.deref-in-Some.inside.right) = rw (← whole) at c.down.invariant.0 in
    (Rises-right (entries_in_tree c.deref-in-Some.inside.left) c.deref-in-Some.inside.entry (entries_in_tree c.deref-in-Some.inside.right) rises, rw (← whole, inside-right c.args.first GREATEST_BOUND (entries_in_tree c.deref-in-Some.inside.left) c.deref-in-Some.inside.entry (entries_in_tree c.deref-in-Some.inside.right) rises c.if-entry-first.true) at c.down.invariant.1)

pub down-preserved : goal.down-preserved
down-preserved c =
    let whole : entries_in_tree c.deref-in-Some.inside.left ++ c.deref-in-Some.inside.entry ∷ entries_in_tree c.deref-in-Some.inside.right ≡ entries_in_tree c.down.here.now = ap (λ (s : Summed). s.entries) (c.deref-in-Some.view_is ∙ c.deref.ensures) ∙ sym (ap entries_in_tree c.in-Some.is) in
    let rises : StartsRise (entries_in_tree c.deref-in-Some.inside.left ++ c.deref-in-Some.inside.entry ∷ entries_in_tree c.deref-in-Some.inside.right) = rw (← whole) at c.down.invariant.0 in
    let entry = to_z-of_z w128 c.deref-in-Some.inside.entry.1 (search rules) in
    let side = to_z-of_z w128 c.total.result (search rules) in
    let inner = to_z-of_z w128 c.whole.result (search rules) in
    let outer = to_z-of_z w128 c.whole-sum.result (search rules) in
    let is : c.whole-sum.result ≡ both (both c.deref-in-Some.inside.entry.1 c.total.result) (to_z w128 c.down.sum-bits) = rw (inner, c.whole.ensures, entry, side) at c.whole-sum.ensures in (
      Rises-left (entries_in_tree c.deref-in-Some.inside.left) c.deref-in-Some.inside.entry (entries_in_tree c.deref-in-Some.inside.right) rises,
      rw (outer, is) (behind-step (inside (record { low = c.args.first; high = GREATEST_BOUND }) (entries_in_tree c.args.link.now)) (inside (record { low = c.args.first; high = GREATEST_BOUND }) (entries_in_tree c.deref-in-Some.inside.left)) (entries_in_tree c.deref-in-Some.inside.right) c.deref-in-Some.inside.entry c.total.result (to_z w128 c.down.sum-bits) c.total.ensures
          (rw (← whole, inside-from c.args.first (entries_in_tree c.deref-in-Some.inside.left) c.deref-in-Some.inside.entry (entries_in_tree c.deref-in-Some.inside.right) rises (omega (arith, c.if-entry-first.false))) at c.down.invariant.1)),
    )
