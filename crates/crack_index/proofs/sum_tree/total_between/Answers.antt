use Rattle.std.proofs.Common.{◌≡◌, ◌∷◌, ◌++◌, ◌+◌, sym, ap, ◌∙◌, arith, rules}
use Rattle.std.specs.Int.{w128}
use Rattle.std.proofs.lemmas.Int.{to_z-of_z}
use Rattle.crack_row.specs.declared.TheConstants.{GREATEST_BOUND}
use Rattle.crack_index.specs.Sums.{both}
use Rattle.crack_index.specs.Cuts.{StartsRise, span}
use Rattle.crack_index.specs.SumTrees.{Summed, entries_in_tree}
use Rattle.crack_index.specs.SumKeeps.{inside}
use Rattle.crack_index.proofs.SumSides.{Rises-left, Rises-right, inside-left, inside-right, inside-both}
use Rattle.crack_index.proofs.SumTotals.{IsTotal-over}
use Rattle.crack_index.proofs.sum_tree.total_between.Goals as goal

pub down-preserved-then-entry-first : goal.down-preserved-then-entry-first
down-preserved-then-entry-first c =
    let whole : entries_in_tree c.deref-in-Some.inside.left ++ c.deref-in-Some.inside.entry ∷ entries_in_tree c.deref-in-Some.inside.right ≡ entries_in_tree c.down.here.now = ap (λ (s : Summed). s.entries) (c.deref-in-Some.view_is ∙ c.deref.ensures) ∙ sym (ap entries_in_tree c.in-Some.is) in
    let rises : StartsRise (entries_in_tree c.deref-in-Some.inside.left ++ c.deref-in-Some.inside.entry ∷ entries_in_tree c.deref-in-Some.inside.right) = rw (← whole) at c.down.invariant.0 in
    (Rises-right (entries_in_tree c.deref-in-Some.inside.left) c.deref-in-Some.inside.entry (entries_in_tree c.deref-in-Some.inside.right) rises, rw (← whole, inside-right c.args.first (c.args.last + 1) (entries_in_tree c.deref-in-Some.inside.left) c.deref-in-Some.inside.entry (entries_in_tree c.deref-in-Some.inside.right) rises c.if-entry-first.true) at c.down.invariant.1)

pub down-preserved : goal.down-preserved
down-preserved c =
    let whole : entries_in_tree c.deref-in-Some.inside.left ++ c.deref-in-Some.inside.entry ∷ entries_in_tree c.deref-in-Some.inside.right ≡ entries_in_tree c.down.here.now = ap (λ (s : Summed). s.entries) (c.deref-in-Some.view_is ∙ c.deref.ensures) ∙ sym (ap entries_in_tree c.in-Some.is) in
    let rises : StartsRise (entries_in_tree c.deref-in-Some.inside.left ++ c.deref-in-Some.inside.entry ∷ entries_in_tree c.deref-in-Some.inside.right) = rw (← whole) at c.down.invariant.0 in
    (Rises-left (entries_in_tree c.deref-in-Some.inside.left) c.deref-in-Some.inside.entry (entries_in_tree c.deref-in-Some.inside.right) rises, rw (← whole, inside-left c.args.first (c.args.last + 1) (entries_in_tree c.deref-in-Some.inside.left) c.deref-in-Some.inside.entry (entries_in_tree c.deref-in-Some.inside.right) rises (omega (arith, c.if-last-entry.true))) at c.down.invariant.1)

pub total_from-requires : goal.total_from-requires
total_from-requires c =
    let whole : entries_in_tree c.deref-in-Some.inside.left ++ c.deref-in-Some.inside.entry ∷ entries_in_tree c.deref-in-Some.inside.right ≡ entries_in_tree c.down.here.now = ap (λ (s : Summed). s.entries) (c.deref-in-Some.view_is ∙ c.deref.ensures) ∙ sym (ap entries_in_tree c.in-Some.is) in
    let rises : StartsRise (entries_in_tree c.deref-in-Some.inside.left ++ c.deref-in-Some.inside.entry ∷ entries_in_tree c.deref-in-Some.inside.right) = rw (← whole) at c.down.invariant.0 in
    Rises-left (entries_in_tree c.deref-in-Some.inside.left) c.deref-in-Some.inside.entry (entries_in_tree c.deref-in-Some.inside.right) rises

pub total_to-requires : goal.total_to-requires
total_to-requires c =
    let whole : entries_in_tree c.deref-in-Some.inside.left ++ c.deref-in-Some.inside.entry ∷ entries_in_tree c.deref-in-Some.inside.right ≡ entries_in_tree c.down.here.now = ap (λ (s : Summed). s.entries) (c.deref-in-Some.view_is ∙ c.deref.ensures) ∙ sym (ap entries_in_tree c.in-Some.is) in
    let rises : StartsRise (entries_in_tree c.deref-in-Some.inside.left ++ c.deref-in-Some.inside.entry ∷ entries_in_tree c.deref-in-Some.inside.right) = rw (← whole) at c.down.invariant.0 in
    Rises-right (entries_in_tree c.deref-in-Some.inside.left) c.deref-in-Some.inside.entry (entries_in_tree c.deref-in-Some.inside.right) rises

pub returns-else-last-entry : goal.returns-else-last-entry
returns-else-last-entry c =
    let whole : entries_in_tree c.deref-in-Some.inside.left ++ c.deref-in-Some.inside.entry ∷ entries_in_tree c.deref-in-Some.inside.right ≡ entries_in_tree c.down.here.now = ap (λ (s : Summed). s.entries) (c.deref-in-Some.view_is ∙ c.deref.ensures) ∙ sym (ap entries_in_tree c.in-Some.is) in
    let rises : StartsRise (entries_in_tree c.deref-in-Some.inside.left ++ c.deref-in-Some.inside.entry ∷ entries_in_tree c.deref-in-Some.inside.right) = rw (← whole) at c.down.invariant.0 in
    let entry = to_z-of_z w128 c.deref-in-Some.inside.entry.1 (search rules) in
    let left = to_z-of_z w128 c.total_from.result (search rules) in
    let right = to_z-of_z w128 c.total_to.result (search rules) in
    let lower = to_z-of_z w128 c.whole-lower.result (search rules) in
    let outer = to_z-of_z w128 c.whole.result (search rules) in
    let is : c.whole.result ≡ both (both c.total_from.result c.deref-in-Some.inside.entry.1) c.total_to.result = rw (lower, right, c.whole-lower.ensures, left, entry) at c.whole.ensures in
    let parts = inside-both c.args.first (c.args.last + 1) (entries_in_tree c.deref-in-Some.inside.left) c.deref-in-Some.inside.entry (entries_in_tree c.deref-in-Some.inside.right) rises (omega (arith, c.if-entry-first.false)) (omega (arith, c.if-last-entry.false)) (omega (arith, c.ranges.last.fits)) in
    rw (← c.down.invariant.1, ← whole, parts, outer, is) (IsTotal-over (inside (record { low = c.args.first; high = GREATEST_BOUND }) (entries_in_tree c.deref-in-Some.inside.left)) (inside (span 0 c.args.last) (entries_in_tree c.deref-in-Some.inside.right)) c.deref-in-Some.inside.entry.0 c.total_from.result c.deref-in-Some.inside.entry.1 c.total_to.result c.total_from.ensures c.total_to.ensures)
