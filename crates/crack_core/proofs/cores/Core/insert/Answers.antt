use Rattle.std.proofs.Common.{Ok, subst}
use Rattle.crack_row.specs.declared.command.Command.TheVariants.{Insert}
use Rattle.crack_row.specs.declared.command.Policy.TheVariants.{Gradual}
use Rattle.crack_row.specs.declared.command.Reply.{Reply}
use Rattle.crack_row.specs.declared.command.Reply.TheVariants.{Placed}
use Rattle.crack_core.specs.Asking.{step_at, Asks}
use Rattle.crack_core.proofs.AskLaws.{asks-said}
use Rattle.crack_core.proofs.cores.Core.insert.Goals as goal

pub returns-in-Ok-clause-inserts : goal.returns-in-Ok-clause-inserts
returns-in-Ok-clause-inserts c =
    let core = c.args.self.now in
    let new = c.ask_part.new.self.parts in
    let step = step_at Gradual c.route-part.result (Insert c.args.key c.args.payload) in
    let said = asks-said core.limits core.splits step c.in-Ok.reply core.parts new c.in-Ok.ensures.asks.0 in
    let asks : Asks core.limits core.splits step (Ok (Placed c.serial_in.result)) core.parts new = subst (λ (r : Reply). Asks core.limits core.splits step (Ok r) core.parts new) (c.serial_in.ensures said.0 c.args.key c.args.payload said.1) c.in-Ok.ensures.asks.0 in
    record { asks = rw c.route-part.ensures at asks; part = c.route-part.ensures }
