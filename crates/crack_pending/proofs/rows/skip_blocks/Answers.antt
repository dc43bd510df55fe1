use Rattle.std.proofs.Common.{◌+◌, arith}
use Rattle.crack_pending.proofs.Kept.{rows_in_slice}
use Rattle.crack_pending.proofs.rows.skip_blocks.Goals as goal

pub far-preserved : goal.far-preserved
far-preserved c =
    let more = rows_in_slice c.args.stands.now c.far.spot (c.far.spot + 64) c.rows_in_block-more.result (omega arith) (omega arith) c.rows_in_block-more.ensures in
    record {
      counted = omega (arith, more, c.far.invariant.counted);
      order = omega arith;
    }
