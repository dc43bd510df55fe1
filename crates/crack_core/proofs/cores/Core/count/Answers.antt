use Rattle.std.proofs.Common.{◌≡◌, ℕ, List, [], ◌∷◌, arith}
use Rattle.crack_row.specs.Ranges.{Range}
use Rattle.crack_row.specs.declared.command.Command.TheVariants.{Count}
use Rattle.crack_core.specs.Asking.{total_rows}
use Rattle.crack_core.specs.declared.turns.PartReply.{PartReply}
use Rattle.crack_core.proofs.AskLaws.{total_rows-fit, reads-one}
use Rattle.crack_core.proofs.cores.Core.count.Goals as goal

pub total_rows-requires : goal.total_rows-requires
total_rows-requires c = rw c.as_slice.ensures.value (total_rows-fit c.in-Ok-ask_range.replies.items c.in-Ok-ask_range.ensures.small c.in-Ok-ask_range.ensures.few)

pub returns-in-Ok-clause-counts : goal.returns-in-Ok-clause-counts
returns-in-Ok-clause-counts c =
    let core = c.args.self.now in
    let said : List PartReply = record { part = c.in-Some.part; reply = c.in-Ok.reply } ∷ [] in
    let counts : c.counted.result ≡ total_rows said = omega (arith, c.counted.ensures) in
    reads-one core.limits core.splits c.args.policy (λ (part : Range). Count part) (λ (said : List PartReply) (count : ℕ). count ≡ total_rows said) c.args.range c.in-Some.part c.in-Ok.reply c.counted.result core.parts c.ask_part.new.self.parts
    (rw c.splits.ensures.value at c.in-Some.ensures.one) c.in-Ok.ensures.asks.0 counts
