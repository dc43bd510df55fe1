use Rattle.std.proofs.Common.{◌-◌}
use Rattle.crack_store.specs.Blocks.{KeepsRows}
use Rattle.crack_store.proofs.BlockLemmas.{ArePartedTo}
use Rattle.crack_store.proofs.blocks.part_doomed.Given as goal

abbrev pub invariant-rows : goal.invariant-rows
invariant-rows l = record {
  parted : ArePartedTo l.pending_out.handles l.from l.to l.initial.column.handles l.column.handles l.live l.end;
  keeps : KeepsRows l.initial.column l.column;
}

abbrev pub decreases-rows : goal.decreases-rows
decreases-rows l = l.end - l.live
