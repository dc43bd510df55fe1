use Rattle.crack_session.proofs.Turns.{Sends-unflushed}
use Rattle.crack_session.proofs.serving.serve_bytes.Goals as goal

pub returns-in-Err-flush-clause-sends : goal.returns-in-Err-flush-clause-sends
returns-in-Err-flush-clause-sends g c =
    Sends-unflushed g.D.Desk.bounds g.D.Desk.splits g.D.Desk.tables g.D.Desk.leads g.W.Write.contents _ _ c.in-Ok.why c.in-Err-flush.refusal c.args.session.now c.feed_all.new.session _
    c.args.desk.now c.feed_all.new.desk c.args.writer.now c.feed_all.new.writer c.flush.new.writer (rw c.fed_by.ensures at c.in-Ok.ensures.sends) c.flush.ensures.bytes c.in-Err-flush.ensures.err
