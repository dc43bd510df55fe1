use Rattle.std.proofs.Common.{◌≡◌, drop, map}
use Rattle.crack_state.specs.Pulled.{buried_all}
use Rattle.crack_column.specs.Drains.{doomed_handle}
use Rattle.crack_store.specs.Drainings.{AreBuried, KeepsKeys}
use Rattle.crack_store.specs.Inside.{lists_of}
use Rattle.crack_store.proofs.draining.bury_all.Given as goal

abbrev pub invariant-rows : goal.invariant-rows
invariant-rows l = record {
  left : AreBuried (map doomed_handle (drop l.i l.doomed)) l.inside.arena.cells l.inside.pending_out.handles;
  after : buried_all (map doomed_handle (drop l.i l.doomed)) (lists_of l.inside) ≡ buried_all (map doomed_handle l.doomed) (lists_of l.initial.inside);
  keys : KeepsKeys l.initial.inside l.inside;
}
