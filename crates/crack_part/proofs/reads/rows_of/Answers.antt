use Rattle.crack_part.proofs.CountLemmas.{rows-walked}
use Rattle.crack_part.proofs.reads.rows_of.Goals as goal

pub returns-then-rows-cells-clause-rows : goal.returns-then-rows-cells-clause-rows
returns-then-rows-cells-clause-rows c =
    rows-walked (λ listed. listed.items) c.live_rows_in.result c.args.store.now c.args.range c.requires.settled c.live_rows_in.ensures.rows
