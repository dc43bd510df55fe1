use Rattle.std.proofs.Common.{◌≡◌, ℕ, List, ◌∷◌, ◌++◌, length, sym, ap, ◌∙◌, arith}
use Rattle.std.specs.Prelude.{ℤ}
use Rattle.crack_index.specs.SumTrees.{Summed, entries_in_tree}
use Rattle.crack_index.specs.SumKeeps.{levels_of}
use Rattle.crack_index.proofs.Sides.{height_fits}
use Rattle.crack_index.proofs.sum_tree.+take_first.Goals as goal

pub join-joined-requires-clause-fits : goal.join-joined-requires-clause-fits
join-joined-requires-clause-fits t c =
    let whole : c.args.node.value.entries ≡ entries_in_tree c.open-left.result.left ++ c.open-left.result.entry ∷ entries_in_tree c.open-left.result.right = ap (λ (s : Summed). s.entries) (sym c.deref_mut.ensures.value) ∙ c.open-left.ensures.entries in
    let long = ap (λ (xs : List (ℕ × ℤ)). length xs) whole in
    let own = ap (λ (xs : List (ℕ × ℤ)). length xs) c.open-left.ensures.entries in
    omega (arith, height_fits _ _ c.open-left.ensures.tall (omega (arith, long, own, c.requires.few)), c.open-left.ensures.high, ap levels_of c.in-Some.is, c.take_first-first.ensures.not_higher)
