use Rattle.std.proofs.Common.{◌≡◌, ◌∷◌, ◌++◌, sym, ap, ◌∙◌, arith}
use Rattle.crack_index.specs.Cuts.{StartsRise}
use Rattle.crack_index.specs.SumTrees.{Summed, entries_in_tree}
use Rattle.crack_index.proofs.SumSides.{Rises-left, Rises-right, next_or-is, next_or-left, next_or-right}
use Rattle.crack_index.proofs.sum_tree.next_above.Goals as goal

pub down-init : goal.down-init
down-init c = (c.requires, next_or-is c.args.key (entries_in_tree c.args.link.now))

pub down-preserved-then-entry-key : goal.down-preserved-then-entry-key
down-preserved-then-entry-key c =
    let whole : entries_in_tree c.deref-in-Some.inside.left ++ c.deref-in-Some.inside.entry ∷ entries_in_tree c.deref-in-Some.inside.right ≡ entries_in_tree c.down.here.now = ap (λ (s : Summed). s.entries) (c.deref-in-Some.view_is ∙ c.deref.ensures) ∙ sym (ap entries_in_tree c.in-Some.is) in
    let rises : StartsRise (entries_in_tree c.deref-in-Some.inside.left ++ c.deref-in-Some.inside.entry ∷ entries_in_tree c.deref-in-Some.inside.right) = rw (← whole) at c.down.invariant.0 in (
      Rises-right (entries_in_tree c.deref-in-Some.inside.left) c.deref-in-Some.inside.entry (entries_in_tree c.deref-in-Some.inside.right) rises,
      rw (← whole, next_or-right c.down.found c.args.key (entries_in_tree c.deref-in-Some.inside.left) c.deref-in-Some.inside.entry (entries_in_tree c.deref-in-Some.inside.right) rises c.if-entry-key.true) at c.down.invariant.1,
    )

pub down-preserved : goal.down-preserved
down-preserved c =
    let whole : entries_in_tree c.deref-in-Some.inside.left ++ c.deref-in-Some.inside.entry ∷ entries_in_tree c.deref-in-Some.inside.right ≡ entries_in_tree c.down.here.now = ap (λ (s : Summed). s.entries) (c.deref-in-Some.view_is ∙ c.deref.ensures) ∙ sym (ap entries_in_tree c.in-Some.is) in
    let rises : StartsRise (entries_in_tree c.deref-in-Some.inside.left ++ c.deref-in-Some.inside.entry ∷ entries_in_tree c.deref-in-Some.inside.right) = rw (← whole) at c.down.invariant.0 in (
      Rises-left (entries_in_tree c.deref-in-Some.inside.left) c.deref-in-Some.inside.entry (entries_in_tree c.deref-in-Some.inside.right) rises,
      rw (← whole, next_or-left c.down.found c.args.key (entries_in_tree c.deref-in-Some.inside.left) c.deref-in-Some.inside.entry (entries_in_tree c.deref-in-Some.inside.right) (omega (arith, c.if-entry-key.false))) at c.down.invariant.1,
    )
