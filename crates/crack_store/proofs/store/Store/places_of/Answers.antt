use Rattle.std.proofs.Common.{[]}
use Rattle.crack_store.proofs.EdgeLemmas.{edge_order, edge_within}
use Rattle.crack_store.proofs.store.Store.places_of.Goals as goal

pub returns-clause-order : goal.returns-clause-order
returns-clause-order c = rw (c.edge.ensures, c.edge-2.ensures, c.low.ensures.value, c.high.ensures.value) (edge_order c.args.self.now [] c.args.range.low c.args.range.high (rw c.self.view_is at c.self.invariant.intact) c.low.ensures.ordered c.requires.0 c.requires.1)

pub returns-clause-within : goal.returns-clause-within
returns-clause-within c = rw (c.edge-2.ensures, c.high.ensures.value) (edge_within c.args.self.now [] c.args.range.high (rw c.self.view_is at c.self.invariant.intact) c.requires.1)
