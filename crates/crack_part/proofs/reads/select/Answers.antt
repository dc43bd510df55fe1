use Rattle.std.proofs.Common.{sym, ◌∙◌}
use Rattle.crack_part.proofs.CountLemmas.{rows-none, rows-answered}
use Rattle.crack_part.proofs.reads.select.Goals as goal

pub returns-in-Some-clause-rows : goal.returns-in-Some-clause-rows
returns-in-Some-clause-rows c =
    let settled = rw c.in-Some.is at c.requires.settled in
    rw c.in-Some.is (rows-answered (λ listed. listed.items) c.rows_of.result c.args.store.now c.in-Some.range c.recall_invariant.ensures settled c.rows_of.ensures.rows c.rows_of.ensures.rising)

pub returns-in-None-clause-rows : goal.returns-in-None-clause-rows
returns-in-None-clause-rows c = λ range common plain numbered same.
    c.new.ensures.items ∙ sym (rows-none c.args.store.now range plain.rows (rw c.in-None.is at common) c.recall_invariant.ensures same)
