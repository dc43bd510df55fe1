use Rattle.std.proofs.Common.{◌∙◌, ◌+◌, ◌++◌, [], ◌∷◌, Ok, sym, ap, arith, take, length}
use Rattle.crack_commands.specs.declared.statement.Statement.TheVariants.{Insert}
use Rattle.crack_session.specs.AskingDesks.{of_option}
use Rattle.crack_session.specs.Feeding.{SessionState}
use Rattle.crack_session.specs.Input.{has_feed}
use Rattle.crack_session.specs.Readings.{reading_of}
use Rattle.crack_session.proofs.Feeds.{first_line-none, taken_line}
use Rattle.crack_session.proofs.Passing.{insert_found, insert_read}
use Rattle.crack_session.proofs.Pieces.{Feeds-line, none_begun}
use Rattle.crack_session.proofs.feeding.Session.take_line.Goals as goal

pub returns-in-Some-clause-feeds : goal.returns-in-Some-clause-feeds
returns-in-Some-clause-feeds g c =
    let bytes = c.args.bytes.now in
    let n = c.in-Some.found.len in
    let begins = c.in-Some.ensures in
    let found = insert_found bytes n begins in
    let none = ap has_feed (sym found.1) ∙ first_line-none bytes in
    let taken = taken_line bytes n begins.within (sym found.1) found.0 ∙ ap (λ l. l ++ 10 ∷ []) found.1 in
    let begun = sym (ap (λ (s : SessionState). s.begun) c.self.view_is) ∙ none_begun c.self.inside.begun.items c.if-is_empty.ensures in
    let said = sym (ap of_option (ap (λ b. reading_of (b ++ take n bytes)) begun ∙ insert_read bytes n begins)) in
    let few = ap length begun in
    Feeds-line g.D.Desk.bounds g.D.Desk.splits g.D.Desk.tables g.D.Desk.leads c.args.self.now c.answer_insert.new.self (take n bytes) (take (n + 1) bytes) (Ok (Insert c.in-Some.found.key c.in-Some.found.payload) ∷ [])
    c.args.desk.now c.answer_insert.new.desk c.args.out.now.items c.answer_insert.new.out.items c.answer_insert.ensures.answers said
    (c.answer_insert.ensures.same ∙ begun) taken none (omega (arith, few)) c.requires.goes_on
