use Rattle.std.proofs.Common.{◌∙◌}
use Rattle.crack_session.proofs.Pieces.{AnswersAll-one, AnswersAll-none}
use Rattle.crack_session.proofs.feeding.Session.respond.Goals as goal

pub returns-in-Some-clause-answers : goal.returns-in-Some-clause-answers
returns-in-Some-clause-answers g c =
    let written = rw (← c.self.view_is) at c.requires.written in
    rw (← c.self.view_is, c.in-Some.is)
    (AnswersAll-one g.D.Desk.bounds g.D.Desk.splits g.D.Desk.tables g.D.Desk.leads _ c.output_answer.new.self c.in-Some.reading c.answer_reading-answer.result
    c.args.desk.now c.answer_reading-answer.new.desk c.args.out.now.items c.output_answer.new.out.items
    c.answer_reading-answer.ensures written c.output_answer.ensures.text c.output_answer.ensures.grows c.output_answer.ensures.noted (c.output_answer.ensures.same.1 ∙ c.ended_by-self-inside.ensures))

pub returns-in-None-clause-answers : goal.returns-in-None-clause-answers
returns-in-None-clause-answers g c =
    rw c.in-None.is (AnswersAll-none g.D.Desk.bounds g.D.Desk.splits g.D.Desk.tables g.D.Desk.leads c.args.self.now c.args.desk.now c.args.out.now.items)
