use Rattle.std.proofs.Common.{[], ◌∷◌, ◌++◌, take, sym}
use Rattle.std.proofs.lemmas.List.{take_all}
use Rattle.crack_table.proofs.StateLaws.{take_read, stranger_more}
use Rattle.crack_table.proofs.covering.add_all.Goals as goal

pub list-preserved : goal.list-preserved
list-preserved c = record {
  coverage = λ done coverage. rw (take_read done c.args.receipts.now c.list.receipt-index c.receipt-item.result c.list-test.true c.receipt-item.is) (c.add-found.ensures.coverage (done ++ take c.list.receipt-index c.args.receipts.now) (c.list.invariant.coverage done coverage));
  stranger = rw (c.or-stranger.ensures, c.list.invariant.stranger, c.add-found.ensures.stranger, take_read [] c.args.receipts.now c.list.receipt-index c.receipt-item.result c.list-test.true c.receipt-item.is) (sym (stranger_more _ (take c.list.receipt-index c.args.receipts.now) (c.receipt-item.result ∷ [])));
}

pub add-found-requires : goal.add-found-requires
add-found-requires c = (c.requires.0 ++ take c.list.receipt-index c.args.receipts.now, c.list.invariant.coverage c.requires.0 c.requires.1)

pub returns-clause-coverage : goal.returns-clause-coverage
returns-clause-coverage c = λ done coverage. rw (take_all c.list.receipt-index c.args.receipts.now c.list-test.false) at (c.list.invariant.coverage done coverage)
