use Rattle.std.proofs.Common.{Ok, subst}
use Rattle.crack_row.specs.declared.command.Command.TheVariants.{Update}
use Rattle.crack_row.specs.declared.command.Policy.TheVariants.{Gradual}
use Rattle.crack_row.specs.declared.command.Reply.{Reply}
use Rattle.crack_core.specs.Asking.{step_at, Asks}
use Rattle.crack_core.proofs.AskLaws.{asks-said}
use Rattle.crack_core.proofs.cores.Core.update.Goals as goal

pub returns-in-Ok-clause-updates : goal.returns-in-Ok-clause-updates
returns-in-Ok-clause-updates c =
    let core = c.args.self.now in
    let new = c.ask_part.new.self.parts in
    let row = c.args.row in
    let step = step_at Gradual row.part (Update row.serial c.args.key c.args.payload) in
    let said = asks-said core.limits core.splits step c.in-Ok.reply core.parts new c.in-Ok.ensures.asks.0 in
    subst (λ (r : Reply). Asks core.limits core.splits step (Ok r) core.parts new) (c.is_changed.ensures said.0 row.serial c.args.key c.args.payload said.1) c.in-Ok.ensures.asks.0
