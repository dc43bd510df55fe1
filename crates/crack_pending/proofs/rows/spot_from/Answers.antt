use Rattle.std.proofs.Common.{arith}
use Rattle.crack_pending.proofs.Kept.{place_at-counted, spot-there}
use Rattle.crack_pending.proofs.rows.spot_from.Goals as goal
use Rattle.crack_pending.proofs.rows.spot_from.Goals.{else-here-via-then-here+else-rows-place, else-here-via-else-here}

pub bounds-stands-spot : goal.bounds-stands-spot
bounds-stands-spot c =
    spot-there c.args.stands.now c.spots.spot c.args.place (omega (arith, c.spots.invariant.counted, c.spots.invariant.order)) c.requires.within

pub overflow_add-spot : goal.overflow_add-spot
overflow_add-spot c =
    omega (arith, spot-there c.args.stands.now c.spots.spot c.args.place (omega (arith, c.spots.invariant.counted, c.spots.invariant.order)) c.requires.within)

pub spots-smaller : goal.spots-smaller
spots-smaller c =
    omega (arith, spot-there c.args.stands.now c.spots.spot c.args.place (omega (arith, c.spots.invariant.counted, c.spots.invariant.order)) c.requires.within)

pub spots-preserved : goal.spots-preserved
spots-preserved c =
    let there = spot-there c.args.stands.now c.spots.spot c.args.place (omega (arith, c.spots.invariant.counted, c.spots.invariant.order)) c.requires.within in
    record {
      counted = omega (arith, place_at-counted c.args.stands.now c.spots.spot there, c.spots.invariant.counted);
      order = elim c.else-here.branch [
        | else-here-via-then-here+else-rows-place w ↦ rw w.if-here.true (omega (arith, w.if-rows-place.false, c.spots.invariant.order))
        | else-here-via-else-here w ↦ rw w.if-here.false (omega (arith, c.spots.invariant.order))
      ];
    }
