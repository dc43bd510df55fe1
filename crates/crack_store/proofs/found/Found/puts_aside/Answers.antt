use Rattle.std.proofs.Common.{◌-◌}
use Rattle.crack_store.proofs.LiveLemmas.{rows-moved}
use Rattle.crack_store.proofs.found.Found.puts_aside.Goals as goal

pub returns-clause-rows : goal.returns-clause-rows
returns-clause-rows c =
    rw (c.truncate.ensures.items, c.in_ok-extend_from_slice-2.ensures.items, c.deref.ensures.value) (rows-moved c.args.self.now.rows.items c.args.self.now.aside.items (c.len-2.result - c.above-above.result))
