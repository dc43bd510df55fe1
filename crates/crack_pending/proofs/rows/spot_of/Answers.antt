use Rattle.std.proofs.Common.{arith}
use Rattle.crack_pending.proofs.Kept.{full-Stands, full-place_at}
use Rattle.crack_pending.proofs.rows.spot_of.Goals as goal

pub returns-then-rows-stands-clause-stands : goal.returns-then-rows-stands-clause-stands
returns-then-rows-stands-clause-stands c = full-Stands c.args.stands.now c.args.place (omega arith) (omega arith)

pub returns-then-rows-stands-clause-place : goal.returns-then-rows-stands-clause-place
returns-then-rows-stands-clause-place c = full-place_at c.args.stands.now c.args.place (omega arith) (omega arith)
