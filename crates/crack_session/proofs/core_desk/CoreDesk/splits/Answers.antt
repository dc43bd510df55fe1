use Rattle.std.proofs.Common.{◌≡◌, List, subst}
use Rattle.std.specs.Prelude.{All}
use Rattle.crack_plain.specs.Plain.{PlainView, IsNumbered}
use Rattle.crack_core.specs.Steps.{tables_of}
use Rattle.crack_session.proofs.core_desk.CoreDesk.splits.Goals as goal

pub returns-clause-numbered : goal.returns-clause-numbered
returns-clause-numbered c = λ known e.
    let same : ◌≡◌ {A = List PlainView} (tables_of c.args.self.now.parts) known = cc in
    subst (λ (tables : List PlainView). All (λ (table : PlainView). IsNumbered table.state) tables) same c.splits.ensures.numbered
