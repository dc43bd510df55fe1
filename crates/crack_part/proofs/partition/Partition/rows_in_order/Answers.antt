use Rattle.crack_part.specs.Parts.{Part}
use Rattle.crack_part.proofs.OrderLemmas.{rows-listed}
use Rattle.crack_part.proofs.partition.Partition.rows_in_order.Goals as goal

pub returns-clause-ok : goal.returns-clause-ok
returns-clause-ok c =
    let at = c.self.inside in
    let part : Part = record { keys = at.keys; limits = at.limits; next = at.next; checkpointed = at.checkpointed; since = at.since; store = at.store } in
    rw (← c.self.view_is) (rows-listed part c.live_rows.result (λ v. v.items) c.self.invariant.sound c.live_rows.ensures.rows c.live_rows.ensures.rising)
