-- Threads may share a table; its workers may go to one by crack_witness.proofs.Crosses.
use denote.RattleType.{RattleType}
use denote.Param.Send.{IsSend, IsSync, struct_sync, sendable}
use denote.Struct.Declared.{shape}
use Rattle.std.proofs.Crossing.{crosses}
use Rattle.crack_witness.specs.declared.opening.Naming.{Ghosts}
use Rattle.crack_witness.proofs.Crosses.{witnessed-send}
use Rattle.crack_table.specs.contracts.table.Table as Table
use Rattle.crack_table.specs.contracts.table.Table.TheInside as table

module _ (J : RattleType) (g : Ghosts J.Denot) (s : IsSend J) where
  -- locks, splits, limits, workers, whether there is an audit
  inside-sync : IsSync (table.the_field J g).row
  inside-sync =
      let w = witnessed-send J g s in
      struct_sync (shape (table.the_type J g)) (search (sendable, crosses) depth 30, (search (sendable, crosses) depth 30, (search (sendable, crosses) depth 30, (search (sendable, crosses) depth 30, (search (sendable, crosses) depth 30, tt)))))

  pub table-sync : IsSync (Table.the_row J g)
  table-sync = let i = inside-sync in search (sendable, crosses) depth 30
