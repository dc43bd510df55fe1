use Rattle.std.proofs.Common.{◌∙◌}
use Rattle.crack_part.proofs.CountLemmas.{count-none, count-places}
use Rattle.crack_part.proofs.reads.count.Goals as goal

pub returns-in-Some : goal.returns-in-Some
returns-in-Some c = λ range common plain same.
    c.count_between.ensures.value ∙ count-places c.args.store.now range c.in-Some.range plain (rw c.in-Some.is at common) c.recall_invariant.ensures (rw c.in-Some.is at c.requires.settled) same

pub returns-in-None : goal.returns-in-None
returns-in-None c = λ range common plain same. count-none c.args.store.now range plain (rw c.in-None.is at common) c.recall_invariant.ensures same
