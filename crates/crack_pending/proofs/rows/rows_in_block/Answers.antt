use Rattle.std.proofs.Common.{◌+◌, arith}
use Rattle.crack_pending.proofs.Kept.{place_at-counted, place_at-few}
use Rattle.crack_pending.proofs.rows.rows_in_block.Goals as goal

pub overflow_add-rows : goal.overflow_add-rows
overflow_add-rows c =
    omega (arith, place_at-counted c.args.stands.now c.spots.spot (omega arith), place_at-few c.args.stands.now (c.spots.spot + 1), c.spots.invariant, c.requires)

pub spots-preserved : goal.spots-preserved
spots-preserved c =
    omega (arith, place_at-counted c.args.stands.now c.spots.spot (omega arith), c.spots.invariant)
