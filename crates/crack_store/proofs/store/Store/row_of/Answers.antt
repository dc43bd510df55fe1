use Rattle.std.proofs.Common.{sym}
use Rattle.crack_state.proofs.PointLaws.{reads_by}
use Rattle.crack_store.specs.Inside.{lists_of}
use Rattle.crack_store.proofs.store.Store.row_of.Goals as goal

pub row_at-requires : goal.row_at-requires
row_at-requires c = reads_by (lists_of c.self.inside.inside) c.args.serial.0 c.in-Some.handle (sym c.in-Some.ensures) c.self.invariant.intact
