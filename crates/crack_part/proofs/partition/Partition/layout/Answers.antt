use Rattle.std.proofs.Common.{ℕ, sym, subst, IfOk, ◌≡◌}
use Rattle.std.proofs.lemmas.List.Sorted.{length_permutation}
use Rattle.crack_row.specs.declared.layout.Layout.{Layout}
use Rattle.crack_plain.specs.Plain.{by_serial}
use Rattle.crack_plain.proofs.OrderLaws.{IsPermutation-by_serial}
use Rattle.crack_state.specs.State.{live_rows}
use Rattle.crack_part.proofs.partition.Partition.layout.Goals as goal

pub returns-clause-rows : goal.returns-clause-rows
returns-clause-rows c =
    let live = live_rows c.self.inside.store in
    let same = length_permutation live (by_serial live) (IsPermutation-by_serial live) in
    rw (← c.self.view_is) (subst (λ (n : ℕ). IfOk c.layout.result (λ (layout : Layout). layout.rows ≡ n)) (sym same) c.layout.ensures.live)
