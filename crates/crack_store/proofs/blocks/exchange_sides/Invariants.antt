use Rattle.crack_store.specs.Blocks.{KeepsRows}
use Rattle.crack_store.proofs.BlockLemmas.{IsExchangedTo}
use Rattle.crack_store.proofs.blocks.exchange_sides.Given as goal

abbrev pub invariant-rows : goal.invariant-rows
invariant-rows l = record {
  exchanged : IsExchangedTo l.from l.count l.to l.initial.column.handles l.column.handles l.i;
  keeps : KeepsRows l.initial.column l.column;
}
