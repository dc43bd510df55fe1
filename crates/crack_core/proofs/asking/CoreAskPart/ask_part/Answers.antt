use Rattle.std.specs.Prelude.{slice_get}
use Rattle.crack_core.specs.Asking.{step_at}
use Rattle.crack_core.specs.Routes.{keys_of_part}
use Rattle.crack_core.specs.Steps.{tables_of}
use Rattle.crack_core.proofs.AskLaws.{lasts-by, parts-same}
use Rattle.crack_core.proofs.asking.CoreAskPart.ask_part.Goals as goal

pub returns-clause-asks : goal.returns-clause-asks
returns-clause-asks c =
    let core = c.args.self.now in
    let step = step_at c.args.policy c.args.part c.args.command in
    let did = c.step-answered.ensures in
    let are = c.recall_invariant.ensures.parts in (
      record {
        comes_out = did.outcome;
        leaves = did.after;
        makes = record {
          parts = rw (did.opened.0, did.opened.1) at are;
          kept = did.after;
          others = did.others;
          store = did.store;
          spared = did.spared;
          same = parts-same c.step-answered.result core c.step-answered.new.self did.same;
        };
        lasts = λ automatic. lasts-by core.limits (keys_of_part core.splits step.part) (slice_get (tables_of core.parts) step.part) step.command c.step-answered.result automatic did.outcome;
      },
      did.opened.0,
      did.opened.1,
    )
