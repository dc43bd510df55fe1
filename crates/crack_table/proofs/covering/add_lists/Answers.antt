use Rattle.std.proofs.Common.{take, sym}
use Rattle.std.specs.List.{flat_map}
use Rattle.crack_table.proofs.StateLaws.{flat_read, stranger_more}
use Rattle.crack_table.proofs.covering.add_lists.Goals as goal

pub lists-preserved : goal.lists-preserved
lists-preserved c = record {
  coverage = rw (flat_read c.args.receipts.now c.lists.list-index c.list-item.result c.lists-test.true c.list-item.is) (c.add_all-found.ensures.coverage _ c.lists.invariant.coverage);
  stranger = rw (c.or-stranger.ensures, c.lists.invariant.stranger, c.add_all-found.ensures.stranger, flat_read c.args.receipts.now c.lists.list-index c.list-item.result c.lists-test.true c.list-item.is) (sym (stranger_more _ (flat_map (λ r. r.now) (take c.lists.list-index c.args.receipts.now)) c.list-item.result.now));
}
