use Rattle.std.proofs.Common.{◌≡◌, ◌<◌, length, arith}
use Rattle.crack_pending.proofs.Looks.{gathered_hit, gathered_miss}
use Rattle.crack_pending.proofs.ahead.gather_between.Goals as goal
use Rattle.crack_pending.proofs.ahead.gather_between.Goals.{then-codes-spot, else-codes-spot}

pub spots-preserved : goal.spots-preserved
spots-preserved c =
    let codes = c.args.codes.now in
    let l = c.spots in
    let within : l.spot < length codes = omega (arith, c.spots-test.true, c.requires.within) in
    elim c.if-codes-spot.branch [
      | then-codes-spot w ↦ rw (w.candidates-is, w.push_reserved.ensures.items) (record {
        gathered = λ begin g. gathered_hit codes c.args.first c.args.last begin l.spot l.candidates.items (l.invariant.gathered begin g) within;
        long = omega (arith, l.invariant.long, w.push_reserved.ensures.len, l.auto.spot);
        capacity = omega (arith, w.push_reserved.ensures.capacity, l.invariant.capacity);
      })
      | else-codes-spot w ↦ rw (w.candidates-is) (record {
        gathered = λ begin g. gathered_miss codes c.args.first c.args.last begin l.spot l.candidates.items (l.invariant.gathered begin g) within (λ lies. absurd (omega (arith, lies.0, lies.1, c.requires.order, c.ranges.last.fits, w.if-codes-spot.false)));
        long = omega (arith, l.invariant.long);
        capacity = l.invariant.capacity;
      })
    ]

pub returns-clause-gathered : goal.returns-clause-gathered
returns-clause-gathered c = λ begin g.
    let end : c.spots.spot ≡ c.args.to = omega (arith, c.spots-test.false, c.spots.auto.spot-end, c.requires.span) in
    rw (← end) (c.spots.invariant.gathered begin g)
