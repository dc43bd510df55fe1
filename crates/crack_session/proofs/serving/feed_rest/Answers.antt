use Rattle.std.proofs.Common.{[], sym, ◌∙◌, refl, arith, length, take}
use Rattle.crack_session.proofs.Turns.{IsSent-none, IsSent-round, Sends-all, Sends-failed, written_stop, take_none, round_shortens}
use Rattle.crack_session.proofs.serving.feed_rest.Goals as goal

pub rest-init : goal.rest-init
rest-init g c = record {
  going = IsSent-none g.D.Desk.bounds g.D.Desk.splits g.D.Desk.tables g.D.Desk.leads g.W.Write.contents c.args.session.now c.args.desk.now c.args.writer.now;
  empty = c.requires.empty;
}

pub returns-in-Err-clause-sends : goal.returns-in-Err-clause-sends
returns-in-Err-clause-sends g c =
    Sends-failed g.D.Desk.bounds g.D.Desk.splits g.D.Desk.tables g.D.Desk.leads g.W.Write.contents _ c.args.session.now c.rest.session c.feed_once-sent.new.session [] [] [] 0 c.feed_once-sent.result.0.taken c.feed_once-sent.result.0.why c.feed_once-sent.result.1 c.in-Err.refusal
    c.args.desk.now c.rest.desk c.feed_once-sent.new.desk c.args.writer.now c.rest.writer c.feed_once-sent.new.writer c.rest.invariant.going c.feed_once-sent.ensures.round c.in-Err.is (take_none c.feed_once-sent.result.0.taken) (omega arith)

pub returns-then-has_stopped-clause-sends : goal.returns-then-has_stopped-clause-sends
returns-then-has_stopped-clause-sends g c =
    let n = c.feed_once-sent.result.0.taken in
    let sent = IsSent-round g.D.Desk.bounds g.D.Desk.splits g.D.Desk.tables g.D.Desk.leads g.W.Write.contents c.args.session.now c.rest.session c.feed_once-sent.new.session [] [] [] n c.feed_once-sent.result.0.why c.feed_once-sent.result.1
    c.args.desk.now c.rest.desk c.feed_once-sent.new.desk c.args.writer.now c.rest.writer c.feed_once-sent.new.writer c.rest.invariant.going c.feed_once-sent.ensures.round c.in_default.is (take_none n) in
    Sends-all g.D.Desk.bounds g.D.Desk.splits g.D.Desk.tables g.D.Desk.leads g.W.Write.contents _ tt c.args.session.now c.feed_once-sent.new.session [] 0 c.args.desk.now c.feed_once-sent.new.desk c.args.writer.now c.feed_once-sent.new.writer sent (omega arith)
    (written_stop c.feed_once-sent.result.0.why _ _ c.feed_once-sent.new.session (sym c.has_stopped.ensures ∙ c.if-has_stopped.true) c.feed_once-sent.ensures.round.stops)

pub rest-preserved : goal.rest-preserved
rest-preserved g c = record {
  going = IsSent-round g.D.Desk.bounds g.D.Desk.splits g.D.Desk.tables g.D.Desk.leads g.W.Write.contents c.args.session.now c.rest.session c.feed_once-sent.new.session [] [] [] c.feed_once-sent.result.0.taken c.feed_once-sent.result.0.why c.feed_once-sent.result.1
      c.args.desk.now c.rest.desk c.feed_once-sent.new.desk c.args.writer.now c.rest.writer c.feed_once-sent.new.writer c.rest.invariant.going c.feed_once-sent.ensures.round c.in_default.is (take_none c.feed_once-sent.result.0.taken);
  empty = c.feed_once-sent.ensures.empty;
}

pub rest-smaller : goal.rest-smaller
rest-smaller g c =
    round_shortens g.D.Desk.bounds g.D.Desk.splits g.D.Desk.tables g.D.Desk.leads g.W.Write.contents c.rest.session c.feed_once-sent.new.session c.feed_once-sent.result.0.taken c.feed_once-sent.result.0.why c.feed_once-sent.result.1
    c.rest.desk c.feed_once-sent.new.desk c.rest.writer c.feed_once-sent.new.writer c.feed_once-sent.ensures.round (sym c.has_stopped.ensures ∙ c.if-has_stopped.false)
