use Rattle.std.proofs.lemmas.List.Sorted.{IsPermutation-trans}
use Rattle.std.proofs.lemmas.Result.{IfOk-weaker}
use Rattle.crack_store.proofs.store.Store.live_rows_in.Goals as goal

pub returns-clause-rows : goal.returns-clause-rows
returns-clause-rows c =
    IfOk-weaker c.into_rows.result _ _ (λ rows same. IsPermutation-trans _ _ rows.items c.in_ok-rows_by_cells.ensures.rows same) c.into_rows.ensures.rows
