use Rattle.std.proofs.Common.{◌≡◌, ◌+◌, ◌-◌, ◌≤◌, [], sym, ◌∙◌, arith, length, length-drop, take, drop}
use Rattle.std.proofs.Math.Seq.{take-add}
use Rattle.crack_session.proofs.Pieces.{whole_rest}
use Rattle.crack_session.proofs.Turns.{IsSent-none, IsSent-round, IsSent-rest, Sends-all, Sends-failed, Sends-failed_rest, other_stop, round_takes, round_within}
use Rattle.crack_session.proofs.serving.feed_all.Goals as goal

pub pieces-init : goal.pieces-init
pieces-init g c = record {
  going = IsSent-none g.D.Desk.bounds g.D.Desk.splits g.D.Desk.tables g.D.Desk.leads g.W.Write.contents c.args.session.now c.args.desk.now c.args.writer.now;
  within = omega arith;
  written = c.requires.written;
  empty = c.requires.empty;
}

pub returns-in-Err-clause-sends : goal.returns-in-Err-clause-sends
returns-in-Err-clause-sends g c =
    let bytes = c.args.bytes.now in
    let k = c.pieces.taken in
    let n = c.feed_once-sent.result.0.taken in
    let round = rw (whole_rest k bytes) at c.feed_once-sent.ensures.round in
    let within = round_within g.D.Desk.bounds g.D.Desk.splits g.D.Desk.tables g.D.Desk.leads g.W.Write.contents c.pieces.session c.feed_once-sent.new.session bytes k n c.feed_once-sent.result.0.why c.feed_once-sent.result.1 c.pieces.desk c.feed_once-sent.new.desk c.pieces.writer c.feed_once-sent.new.writer round c.pieces.invariant.within in
    Sends-failed g.D.Desk.bounds g.D.Desk.splits g.D.Desk.tables g.D.Desk.leads g.W.Write.contents _ c.args.session.now c.pieces.session c.feed_once-sent.new.session (take k bytes) (drop k bytes) bytes (k + n) n c.feed_once-sent.result.0.why c.feed_once-sent.result.1 c.in-Err.refusal
    c.args.desk.now c.pieces.desk c.feed_once-sent.new.desk c.args.writer.now c.pieces.writer c.feed_once-sent.new.writer c.pieces.invariant.going round c.in-Err.is (sym (take-add k n bytes)) within

pub returns-then-has_stopped-clause-sends : goal.returns-then-has_stopped-clause-sends
returns-then-has_stopped-clause-sends g c =
    let bytes = c.args.bytes.now in
    let k = c.pieces.taken in
    let n = c.feed_once-sent.result.0.taken in
    let round = rw (whole_rest k bytes) at c.feed_once-sent.ensures.round in
    let within = round_within g.D.Desk.bounds g.D.Desk.splits g.D.Desk.tables g.D.Desk.leads g.W.Write.contents c.pieces.session c.feed_once-sent.new.session bytes k n c.feed_once-sent.result.0.why c.feed_once-sent.result.1 c.pieces.desk c.feed_once-sent.new.desk c.pieces.writer c.feed_once-sent.new.writer round c.pieces.invariant.within in
    let sent = IsSent-round g.D.Desk.bounds g.D.Desk.splits g.D.Desk.tables g.D.Desk.leads g.W.Write.contents c.args.session.now c.pieces.session c.feed_once-sent.new.session (take k bytes) (drop k bytes) (take (k + n) bytes) n c.feed_once-sent.result.0.why c.feed_once-sent.result.1
    c.args.desk.now c.pieces.desk c.feed_once-sent.new.desk c.args.writer.now c.pieces.writer c.feed_once-sent.new.writer c.pieces.invariant.going round c.in_default.is (sym (take-add k n bytes)) in
    let long = length-drop k bytes in
    let left : length (drop k bytes) - n ≡ length bytes - (k + n) = omega (arith, long) in
    Sends-all g.D.Desk.bounds g.D.Desk.splits g.D.Desk.tables g.D.Desk.leads g.W.Write.contents _ c.feed_once-sent.result.0.why c.args.session.now c.feed_once-sent.new.session bytes (k + n) c.args.desk.now c.feed_once-sent.new.desk c.args.writer.now c.feed_once-sent.new.writer sent within
    (other_stop c.feed_once-sent.result.0.why _ _ c.feed_once-sent.new.session (sym c.has_stopped.ensures ∙ c.if-has_stopped.true) (rw left at round.stops))

pub returns-in-Err-feed_rest-clause-sends : goal.returns-in-Err-feed_rest-clause-sends
returns-in-Err-feed_rest-clause-sends g c =
    let bytes = c.args.bytes.now in
    let k = c.pieces.taken in
    let n = c.feed_once-sent.result.0.taken in
    let round = rw (whole_rest k bytes) at c.feed_once-sent.ensures.round in
    let within = round_within g.D.Desk.bounds g.D.Desk.splits g.D.Desk.tables g.D.Desk.leads g.W.Write.contents c.pieces.session c.feed_once-sent.new.session bytes k n c.feed_once-sent.result.0.why c.feed_once-sent.result.1 c.pieces.desk c.feed_once-sent.new.desk c.pieces.writer c.feed_once-sent.new.writer round c.pieces.invariant.within in
    let sent = IsSent-round g.D.Desk.bounds g.D.Desk.splits g.D.Desk.tables g.D.Desk.leads g.W.Write.contents c.args.session.now c.pieces.session c.feed_once-sent.new.session (take k bytes) (drop k bytes) (take (k + n) bytes) n c.feed_once-sent.result.0.why c.feed_once-sent.result.1
    c.args.desk.now c.pieces.desk c.feed_once-sent.new.desk c.args.writer.now c.pieces.writer c.feed_once-sent.new.writer c.pieces.invariant.going round c.in_default.is (sym (take-add k n bytes)) in
    Sends-failed_rest g.D.Desk.bounds g.D.Desk.splits g.D.Desk.tables g.D.Desk.leads g.W.Write.contents _ _ c.args.session.now c.feed_once-sent.new.session c.feed_rest.new.session bytes (k + n) c.in-Err-feed_rest.refusal
    c.args.desk.now c.feed_once-sent.new.desk c.feed_rest.new.desk c.args.writer.now c.feed_once-sent.new.writer c.feed_rest.new.writer sent c.in-Err-feed_rest.ensures.sends within

pub pieces-preserved : goal.pieces-preserved
pieces-preserved g c =
    let bytes = c.args.bytes.now in
    let k = c.pieces.taken in
    let n = c.feed_once-sent.result.0.taken in
    let round = rw (whole_rest k bytes) at c.feed_once-sent.ensures.round in
    let within = round_within g.D.Desk.bounds g.D.Desk.splits g.D.Desk.tables g.D.Desk.leads g.W.Write.contents c.pieces.session c.feed_once-sent.new.session bytes k n c.feed_once-sent.result.0.why c.feed_once-sent.result.1 c.pieces.desk c.feed_once-sent.new.desk c.pieces.writer c.feed_once-sent.new.writer round c.pieces.invariant.within in
    let sent = IsSent-round g.D.Desk.bounds g.D.Desk.splits g.D.Desk.tables g.D.Desk.leads g.W.Write.contents c.args.session.now c.pieces.session c.feed_once-sent.new.session (take k bytes) (drop k bytes) (take (k + n) bytes) n c.feed_once-sent.result.0.why c.feed_once-sent.result.1
    c.args.desk.now c.pieces.desk c.feed_once-sent.new.desk c.args.writer.now c.pieces.writer c.feed_once-sent.new.writer c.pieces.invariant.going round c.in_default.is (sym (take-add k n bytes)) in
    record {
      going = IsSent-rest g.D.Desk.bounds g.D.Desk.splits g.D.Desk.tables g.D.Desk.leads g.W.Write.contents _ c.in-Ok.field-0 c.args.session.now c.feed_once-sent.new.session c.feed_rest.new.session (take (k + n) bytes)
          c.args.desk.now c.feed_once-sent.new.desk c.feed_rest.new.desk c.args.writer.now c.feed_once-sent.new.writer c.feed_rest.new.writer sent c.in-Ok.ensures.sends;
      within = within;
      written = c.in-Ok.ensures.sends.stops;
      empty = c.feed_rest.ensures.empty;
    }

pub pieces-smaller : goal.pieces-smaller
pieces-smaller g c =
    let bytes = c.args.bytes.now in
    let k = c.pieces.taken in
    let n = c.feed_once-sent.result.0.taken in
    let round = rw (whole_rest k bytes) at c.feed_once-sent.ensures.round in
    let within = round_within g.D.Desk.bounds g.D.Desk.splits g.D.Desk.tables g.D.Desk.leads g.W.Write.contents c.pieces.session c.feed_once-sent.new.session bytes k n c.feed_once-sent.result.0.why c.feed_once-sent.result.1 c.pieces.desk c.feed_once-sent.new.desk c.pieces.writer c.feed_once-sent.new.writer round c.pieces.invariant.within in
    let some = round_takes g.D.Desk.bounds g.D.Desk.splits g.D.Desk.tables g.D.Desk.leads g.W.Write.contents c.pieces.session c.feed_once-sent.new.session (drop k bytes) n c.feed_once-sent.result.0.why c.feed_once-sent.result.1 c.pieces.desk c.feed_once-sent.new.desk c.pieces.writer c.feed_once-sent.new.writer round c.pieces.invariant.written (sym c.has_stopped.ensures ∙ c.if-has_stopped.false) in
    omega (arith, some, within)
