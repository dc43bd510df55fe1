use Rattle.std.proofs.Common.{◌∙◌, ap, Ok, Err, [], ◌∷◌, ◌++◌, refl}
use Rattle.crack_row.specs.declared.command.Command.TheVariants.{Insert}
use Rattle.crack_commands.specs.declared.statement.Statement.TheVariants.{Insert as InsertSaid}
use Rattle.crack_core.specs.Steps.{tables_after}
use Rattle.crack_session.specs.declared.answer.Answer.TheVariants.{Replied, Refused}
use Rattle.crack_session.specs.Calls.{Asked}
use Rattle.crack_session.proofs.Appending.{reply_output}
use Rattle.crack_session.proofs.Calling.{Calls-one}
use Rattle.crack_session.proofs.Pieces.{AnswersAll-one}
use Rattle.crack_session.proofs.feeding.Session.answer_insert.Goals as goal

pub returns-in-Ok-clause-answers : goal.returns-in-Ok-clause-answers
returns-in-Ok-clause-answers g c =
    let written = rw (← c.self.view_is) at c.requires.written in
    let noted = rw (← c.self.view_is) at c.output_reply.ensures.noted in
    let ending = rw (← c.self.view_is) at c.output_reply.ensures.same.1 in
    let text = c.output_reply.ensures.text ∙ ap (λ t. c.args.out.now.items ++ t) (reply_output c.part_with_key-part.result c.in-Ok.reply) in
    rw (← c.self.view_is)
    (AnswersAll-one g.D.Desk.bounds g.D.Desk.splits g.D.Desk.tables g.D.Desk.leads _ c.output_reply.new.self (Ok (InsertSaid c.args.key c.args.payload)) (Replied c.part_with_key-part.result c.in-Ok.reply)
    c.args.desk.now c.ask.new.self c.args.out.now.items c.output_reply.new.out.items
    (record {
      is = λ tables e. (
        tables_after (g.D.Desk.bounds c.args.desk.now) tables c.part_with_key-part.result (Insert c.args.key c.args.payload) (Ok c.in-Ok.reply),
        rw (← c.part_with_key-part.ensures) record { outcome = Ok c.in-Ok.reply; comes_out = c.in-Ok.ensures.outcome tables e; answer_is = refl; new_is = refl },
        c.in-Ok.ensures.after tables e,
      );
      bounds_are = c.ask.ensures.bounds;
      splits_are = c.ask.ensures.splits;
      calls = Asked c.part_with_key-part.result (Insert c.args.key c.args.payload) c.self.inside.progress.policy (Ok c.in-Ok.reply) ∷ [];
      were = Calls-one g.D.Desk.leads _ _ _ c.in-Ok.ensures.leads;
      made = rw (← c.part_with_key-part.ensures) (Ok c.in-Ok.reply, refl, refl);
    })
    written text c.output_reply.ensures.grows noted ending)

pub returns-in-Err-clause-answers : goal.returns-in-Err-clause-answers
returns-in-Err-clause-answers g c =
    let written = rw (← c.self.view_is) at c.requires.written in
    let noted = rw (← c.self.view_is) at c.output_refusal.ensures.noted in
    let ending = rw (← c.self.view_is) at c.output_refusal.ensures.same.1 in
    rw (← c.self.view_is)
    (AnswersAll-one g.D.Desk.bounds g.D.Desk.splits g.D.Desk.tables g.D.Desk.leads _ c.output_refusal.new.self (Ok (InsertSaid c.args.key c.args.payload)) (Refused c.in-Err.refusal)
    c.args.desk.now c.ask.new.self c.args.out.now.items c.output_refusal.new.out.items
    (record {
      is = λ tables e. (
        tables_after (g.D.Desk.bounds c.args.desk.now) tables c.part_with_key-part.result (Insert c.args.key c.args.payload) (Err c.in-Err.refusal),
        rw (← c.part_with_key-part.ensures) record { outcome = Err c.in-Err.refusal; comes_out = c.in-Err.ensures.outcome tables e; answer_is = refl; new_is = refl },
        c.in-Err.ensures.after tables e,
      );
      bounds_are = c.ask.ensures.bounds;
      splits_are = c.ask.ensures.splits;
      calls = Asked c.part_with_key-part.result (Insert c.args.key c.args.payload) c.self.inside.progress.policy (Err c.in-Err.refusal) ∷ [];
      were = Calls-one g.D.Desk.leads _ _ _ c.in-Err.ensures.leads;
      made = rw (← c.part_with_key-part.ensures) (Err c.in-Err.refusal, refl, refl);
    })
    written c.output_refusal.ensures.text c.output_refusal.ensures.grows noted ending)
