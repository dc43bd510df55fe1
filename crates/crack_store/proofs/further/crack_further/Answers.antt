use Rattle.std.proofs.Common.{[]}
use Rattle.crack_store.specs.Inside.{lists_of}
use Rattle.crack_store.proofs.FurtherLemmas.{bounds_in-room}
use Rattle.crack_store.proofs.further.crack_further.Goals as goal

pub crack_at_ends-requires-clause-room : goal.crack_at_ends-requires-clause-room
crack_at_ends-requires-clause-room c =
    let both = c.crack_beside-2.new.inside in
    bounds_in-room (lists_of both) [] c.args.range c.missing_ends-missing.result both.index.room c.crack_beside-2.ensures.intact.intact c.missing_ends-missing.ensures c.crack_beside-2.ensures.room

pub returns-clause-further : goal.returns-clause-further
returns-clause-further c = record {
  beside_low = lists_of c.crack_beside.new.inside;
  beside_both = lists_of c.crack_beside-2.new.inside;
  low = rw c.low.ensures.value at c.crack_beside.ensures.beside;
  high = rw c.high.ensures.value at c.crack_beside-2.ensures.beside;
  refines = c.crack_at_ends.ensures.refined;
}
