use Rattle.std.proofs.Common.{sym}
use Rattle.crack_table.proofs.StateLaws.{flat_read}
use Rattle.crack_table.proofs.Lates.{late_found, flat_split, none_from_test, none_more}
use Rattle.crack_table.proofs.order.first_late.Goals as goal

pub returns-then-is_some : goal.returns-then-is_some
returns-then-is_some c =
    rw (flat_split c.args.receipts.now c.lists.list-index c.list-item.result c.lists-test.true c.list-item.is)
    (late_found _ c.list-item.result.now _ c.in_ok-late.late c.lists.invariant.none (c.in_ok-late.ensures.late _ c.lists.invariant.tracks) (sym c.if-is_some.ensures))

pub lists-preserved : goal.lists-preserved
lists-preserved c =
    let none = none_from_test c.in_ok-late.late c.if-is_some.ensures in record {
      tracks = rw (flat_read c.args.receipts.now c.lists.list-index c.list-item.result c.lists-test.true c.list-item.is) (c.in_ok-late.ensures.tracks _ c.lists.invariant.tracks none);
      none = rw (flat_read c.args.receipts.now c.lists.list-index c.list-item.result c.lists-test.true c.list-item.is) (none_more _ c.list-item.result.now c.in_ok-late.late c.lists.invariant.none none (c.in_ok-late.ensures.late _ c.lists.invariant.tracks));
    }
