use Rattle.std.proofs.Common.{rules}
use Rattle.crack_session.proofs.answer.answer_statement.Goals as goal

pub returns : goal.returns
returns g c = record {
  is = search rules;
  bounds_are = c.ask_part.ensures.bounds_are;
  splits_are = c.ask_part.ensures.splits_are;
  calls = c.ask_part.ensures.calls;
  were = c.ask_part.ensures.were;
  made = search rules;
}

pub returns-in-Count : goal.returns-in-Count
returns-in-Count g c = search rules

pub returns-in-Layout : goal.returns-in-Layout
returns-in-Layout g c = search rules

pub returns-in-Policy : goal.returns-in-Policy
returns-in-Policy g c = search rules
