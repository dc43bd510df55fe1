use Rattle.std.proofs.Common.{◌≡◌, refl}
use Rattle.crack_store.proofs.LiveLemmas.{live-all}
use Rattle.crack_store.proofs.store.Store.live_rows.Goals as goal

pub returns-clause-rows : goal.returns-clause-rows
returns-clause-rows c =
    let keys : c.self.inside.inside.keys ≡ c.args.self.now.keys = rw (← c.self.view_is) refl in
    rw (keys, live-all c.args.self.now c.recall_invariant.ensures) at c.live_rows_in.ensures.rows
