use Rattle.std.proofs.Common.{◌≡◌, ◌∷◌, ◌++◌, sym, ap, ◌∙◌, arith}
use Rattle.crack_index.specs.Cuts.{StartsRise, sum_piece_at}
use Rattle.crack_index.specs.SumTrees.{Summed, entries_in_tree}
use Rattle.crack_index.proofs.SumSides.{or_else-some, Rises-left, Rises-right, piece_at-left, piece_at-right}
use Rattle.crack_index.proofs.sum_tree.last_at.Goals as goal

pub down-preserved-then-entry-key : goal.down-preserved-then-entry-key
down-preserved-then-entry-key c =
    let whole : entries_in_tree c.deref-in-Some.inside.left ++ c.deref-in-Some.inside.entry ∷ entries_in_tree c.deref-in-Some.inside.right ≡ entries_in_tree c.down.here.now = ap (λ (s : Summed). s.entries) (c.deref-in-Some.view_is ∙ c.deref.ensures) ∙ sym (ap entries_in_tree c.in-Some.is) in
    let rises : StartsRise (entries_in_tree c.deref-in-Some.inside.left ++ c.deref-in-Some.inside.entry ∷ entries_in_tree c.deref-in-Some.inside.right) = rw (← whole) at c.down.invariant.0 in (
      Rises-right (entries_in_tree c.deref-in-Some.inside.left) c.deref-in-Some.inside.entry (entries_in_tree c.deref-in-Some.inside.right) rises,
      sym (or_else-some (sum_piece_at c.args.key (entries_in_tree c.deref-in-Some.inside.right)) c.deref-in-Some.inside.entry c.down.found) ∙ (rw (← whole, piece_at-right c.args.key (entries_in_tree c.deref-in-Some.inside.left) c.deref-in-Some.inside.entry (entries_in_tree c.deref-in-Some.inside.right) rises (omega (arith, c.ranges.key.fits)) c.if-entry-key.true) at c.down.invariant.1),
    )

pub down-preserved : goal.down-preserved
down-preserved c =
    let whole : entries_in_tree c.deref-in-Some.inside.left ++ c.deref-in-Some.inside.entry ∷ entries_in_tree c.deref-in-Some.inside.right ≡ entries_in_tree c.down.here.now = ap (λ (s : Summed). s.entries) (c.deref-in-Some.view_is ∙ c.deref.ensures) ∙ sym (ap entries_in_tree c.in-Some.is) in
    let rises : StartsRise (entries_in_tree c.deref-in-Some.inside.left ++ c.deref-in-Some.inside.entry ∷ entries_in_tree c.deref-in-Some.inside.right) = rw (← whole) at c.down.invariant.0 in (
      Rises-left (entries_in_tree c.deref-in-Some.inside.left) c.deref-in-Some.inside.entry (entries_in_tree c.deref-in-Some.inside.right) rises,
      rw (← whole, piece_at-left c.args.key (entries_in_tree c.deref-in-Some.inside.left) c.deref-in-Some.inside.entry (entries_in_tree c.deref-in-Some.inside.right) rises (omega (arith, c.if-entry-key.false))) at c.down.invariant.1,
    )
