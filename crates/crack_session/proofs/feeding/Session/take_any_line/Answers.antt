use Rattle.std.proofs.Common.{◌∙◌, ◌+◌, ◌++◌, [], ◌∷◌, sym, ap, arith, take}
use Rattle.std.proofs.lemmas.List.{take_all}
use Rattle.crack_session.specs.AskingDesks.{of_option}
use Rattle.crack_session.specs.Feeding.{SessionState}
use Rattle.crack_session.specs.Input.{has_feed}
use Rattle.crack_session.proofs.Feeds.{first_line-none, taken_line}
use Rattle.crack_session.proofs.Pieces.{AnswersAll-from, Feeds-line, Feeds-begun, feed_before, no_feed_before}
use Rattle.crack_session.proofs.feeding.Session.take_any_line.Goals as goal

pub returns-then-place-bytes-clause-feeds : goal.returns-then-place-bytes-clause-feeds
returns-then-place-bytes-clause-feeds g c =
    let bytes = c.args.bytes.now in
    let place = c.feed_at-place.result in
    let none = no_feed_before bytes place (λ h. (c.feed_at-place.ensures.found h).0) c.if-place-bytes.true in
    let all = take_all place bytes (omega (arith, c.if-place-bytes.true)) in
    rw all (Feeds-begun g.D.Desk.bounds g.D.Desk.splits g.D.Desk.tables g.D.Desk.leads c.args.self.now c.keep.new.self bytes c.args.desk.now c.args.out.now.items c.keep.ensures.kept none c.keep.ensures.few c.requires.goes_on)

pub returns-clause-feeds : goal.returns-clause-feeds
returns-clause-feeds g c =
    let bytes = c.args.bytes.now in
    let place = c.feed_at-place.result in
    let feed = feed_before bytes place c.feed_at-place.ensures.none c.if-place-bytes.false in
    let front = c.feed_at-place.ensures.front in
    let none = ap has_feed front ∙ first_line-none bytes in
    let taken = taken_line bytes place (c.feed_at-place.ensures.found feed).0 front feed ∙ ap (λ l. l ++ 10 ∷ []) (sym front) in
    let same = c.finish-reading.ensures.same in
    let answered = AnswersAll-from g.D.Desk.bounds g.D.Desk.splits g.D.Desk.tables g.D.Desk.leads c.args.self.now c.finish-reading.new.self c.respond.new.self (of_option c.finish-reading.result)
    c.args.desk.now c.respond.new.desk c.args.out.now.items c.respond.new.out.items c.respond.ensures.answers
    (ap (λ (s : SessionState). s.progress) same) (ap (λ (s : SessionState). s.unwritten) same) (ap (λ (s : SessionState). s.ending) same) in
    Feeds-line g.D.Desk.bounds g.D.Desk.splits g.D.Desk.tables g.D.Desk.leads c.args.self.now c.respond.new.self (take place bytes) (take (place + 1) bytes) (of_option c.finish-reading.result)
    c.args.desk.now c.respond.new.desk c.args.out.now.items c.respond.new.out.items answered (ap of_option c.finish-reading.ensures.reading)
    (c.respond.ensures.same ∙ ap (λ (s : SessionState). s.begun) same) taken none c.finish-reading.ensures.few c.requires.goes_on
