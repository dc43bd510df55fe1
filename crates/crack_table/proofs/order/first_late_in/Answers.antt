use Rattle.std.proofs.Common.{List, sym, ap, ◌∙◌}
use Rattle.std.specs.BTreeMap.{get}
use Rattle.std.specs.Option.{option_map}
use Rattle.crack_table.specs.Coverage.{named_place, pair_cmp}
use Rattle.crack_table.proofs.StateLaws.{take_read}
use Rattle.crack_table.proofs.Lates.{track_more, late_step, late_now}
use Rattle.crack_table.proofs.order.first_late_in.Goals as goal

pub returns-then-is_late_at-clause-late : goal.returns-then-is_late_at-clause-late
returns-then-is_late_at-clause-late c =
    let late = rw c.in_ok-before.ensures.old at (sym c.is_late_at.ensures ∙ c.if-is_late_at.true) in
    λ done t. ap (option_map named_place) (sym (c.list.invariant.rest done t ∙ late_now _ c.args.list.now c.list.receipt-index c.receipt-item.result c.list-test.true c.receipt-item.is (c.list.invariant.tracks done t c.receipt-item.result ∙ late)))

pub list-preserved : goal.list-preserved
list-preserved c =
    let fresh = rw c.in_ok-before.ensures.old at (sym c.is_late_at.ensures ∙ c.if-is_late_at.false) in
    let more = λ (done : List _). take_read done c.args.list.now c.list.receipt-index c.receipt-item.result c.list-test.true c.receipt-item.is in record {
      tracks = λ done t. rw (more done) (track_more (get pair_cmp c.list.last) (get pair_cmp c.insert.new.self) _ c.receipt-item.result (c.list.invariant.tracks done t) fresh (λ q. c.in_ok-before.ensures.updates.0 q));
      rest = λ done t. rw (more done) (c.list.invariant.rest done t ∙ late_step _ c.args.list.now c.list.receipt-index c.receipt-item.result c.list-test.true c.receipt-item.is (c.list.invariant.tracks done t c.receipt-item.result ∙ fresh));
    }
