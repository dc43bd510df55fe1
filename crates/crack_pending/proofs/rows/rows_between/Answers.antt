use Rattle.std.proofs.Common.{◌+◌, arith}
use Rattle.crack_pending.proofs.Kept.{rows_in_slice, place_at-few}
use Rattle.crack_pending.proofs.rows.rows_between.Goals as goal

pub overflow_add-rows : goal.overflow_add-rows
overflow_add-rows c =
    let more = rows_in_slice c.args.stands.now c.far.spot (c.far.spot + 64) c.rows_in_block.result (omega arith) (omega arith) c.rows_in_block.ensures in
    omega (arith, more, c.far.invariant.counted, place_at-few c.args.stands.now (c.far.spot + 64))

pub far-preserved : goal.far-preserved
far-preserved c =
    let more = rows_in_slice c.args.stands.now c.far.spot (c.far.spot + 64) c.rows_in_block.result (omega arith) (omega arith) c.rows_in_block.ensures in
    record {
      after = omega arith;
      within = omega arith;
      counted = omega (arith, more, c.far.invariant.counted);
    }

pub overflow_add-result : goal.overflow_add-result
overflow_add-result c =
    let more = rows_in_slice c.args.stands.now c.far.spot c.args.to c.rows_in_block-2.result c.far.invariant.within c.requires.within c.rows_in_block-2.ensures in
    omega (arith, more, c.far.invariant.counted, place_at-few c.args.stands.now c.args.to)

pub returns : goal.returns
returns c =
    let more = rows_in_slice c.args.stands.now c.far.spot c.args.to c.rows_in_block-2.result c.far.invariant.within c.requires.within c.rows_in_block-2.ensures in
    omega (arith, more, c.far.invariant.counted)
