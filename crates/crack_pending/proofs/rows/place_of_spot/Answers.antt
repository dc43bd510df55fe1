use Rattle.std.proofs.Common.{arith, sym}
use Rattle.crack_pending.proofs.Kept.{full-place_at}
use Rattle.crack_pending.proofs.rows.place_of_spot.Goals as goal

pub returns-then-rows-stands : goal.returns-then-rows-stands
returns-then-rows-stands c = sym (full-place_at c.args.stands.now c.args.spot (omega arith) (omega arith))
