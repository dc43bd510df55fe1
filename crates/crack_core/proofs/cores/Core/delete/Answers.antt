use Rattle.std.proofs.Common.{Ok, subst}
use Rattle.crack_row.specs.declared.command.Command.TheVariants.{Delete}
use Rattle.crack_row.specs.declared.command.Policy.TheVariants.{Gradual}
use Rattle.crack_row.specs.declared.command.Reply.{Reply}
use Rattle.crack_core.specs.Asking.{step_at, Asks}
use Rattle.crack_core.proofs.AskLaws.{asks-said}
use Rattle.crack_core.proofs.cores.Core.delete.Goals as goal

pub returns-in-Ok-clause-deletes : goal.returns-in-Ok-clause-deletes
returns-in-Ok-clause-deletes c =
    let core = c.args.self.now in
    let new = c.ask_part.new.self.parts in
    let row = c.args.row in
    let step = step_at Gradual row.part (Delete row.serial) in
    let said = asks-said core.limits core.splits step c.in-Ok.reply core.parts new c.in-Ok.ensures.asks.0 in
    subst (λ (r : Reply). Asks core.limits core.splits step (Ok r) core.parts new) (c.gone_in.ensures said.0 row.serial said.1) c.in-Ok.ensures.asks.0
