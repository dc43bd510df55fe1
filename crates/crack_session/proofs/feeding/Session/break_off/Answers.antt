use Rattle.std.proofs.Common.{◌∙◌}
use Rattle.crack_session.specs.Feeding.{rest_text}
use Rattle.crack_session.proofs.Broken.{breaks_some, statements_broken}
use Rattle.crack_session.proofs.Pieces.{state_with}
use Rattle.crack_session.proofs.feeding.Session.break_off.Goals as goal

pub returns-then-is_none-clause-whole : goal.returns-then-is_none-clause-whole
returns-then-is_none-clause-whole c = λ bytes begun. statements_broken c.args.self.now.begun bytes begun

pub returns-clause-whole : goal.returns-clause-whole
returns-clause-whole c = λ bytes begun. statements_broken c.args.self.now.begun bytes begun

pub returns-clause-breaks : goal.returns-clause-breaks
returns-clause-breaks c =
    let before = state_with c.self.inside.progress (rest_text c.self.inside.rest) c.self.inside.ending c.self.inside.begun.items in
    breaks_some c.args.self.now before c.note.new.progress c.args.out.now.items c.push_refusal.new.text.items c.finish.result
    c.finish.ensures.reading c.if-is_none.ensures (c.self.view_is ∙ c.finish.ensures.same) c.note.ensures c.push_refusal.ensures
