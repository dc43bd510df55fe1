use Rattle.std.proofs.Common.{◌-◌, refl, arith}
use Rattle.crack_store.proofs.ClosingLemmas.{KeepsRows-trans, closed_over}
use Rattle.crack_store.proofs.closing.close_piece.Goals as goal

pub returns-clause-closes : goal.returns-clause-closes
returns-clause-closes c =
    let v = c.args.closing.now in
    let live = c.part_doomed-live.result in
    let start = v.from - v.gap in
    let parts = c.part_doomed-live.ensures in
    let sides = c.exchange_sides-moved.ensures in
    let closed = closed_over v.pending_out.now.handles start v.from c.args.to live v.column.handles c.part_doomed-live.new.column.handles c.exchange_sides-moved.new.column.handles (omega arith) c.requires.order c.requires.within parts.parts sides.sides in
    record {
      stay = closed.stay;
      out = closed.leave;
      hole = closed.hole;
      rows_are = closed.rows_are;
      piece = closed.piece;
      hole_is = closed.hole_is;
      stays = closed.stays;
      leaves = closed.leaves;
      place_is = omega (arith, closed.live_is, c.requires.ready.gap);
      from_is = refl;
      gap_is = refl;
      few = omega (arith, closed.to_end, sides.moved, c.saturating_add-closing.ensures, c.requires.ready.gap, c.requires.order);
      also = record { rows = KeepsRows-trans v.column c.part_doomed-live.new.column c.exchange_sides-moved.new.column parts.keeps sides.keeps; out = refl; pulled = omega (arith, c.saturating_add-closing.ensures, c.requires.ready.small) };
    }
