use Rattle.std.proofs.Common.{[]}
use Rattle.crack_store.proofs.EdgeLemmas.{edge_order}
use Rattle.crack_store.proofs.store.Store.count_between.Goals as goal

pub returns-clause-order : goal.returns-clause-order
returns-clause-order c = edge_order c.args.self.now [] c.args.range.low c.args.range.high (rw c.self.view_is at c.self.invariant.intact) c.low.ensures.ordered c.requires.0 c.requires.1

pub overflow_sub-result : goal.overflow_sub-result
overflow_sub-result c = rw (c.edge-2.ensures, c.edge.ensures, c.low.ensures.value, c.high.ensures.value) (returns-clause-order c)
