use Rattle.std.proofs.Common.{◌≡◌, List, [], ◌∷◌, ℤ, arith}
use Rattle.std.proofs.lemmas.Int.{ints}
use Rattle.crack_row.specs.Ranges.{Range}
use Rattle.crack_row.specs.declared.command.Command.TheVariants.{Sum}
use Rattle.crack_core.specs.Asking.{total_sum}
use Rattle.crack_core.specs.declared.turns.PartReply.{PartReply}
use Rattle.crack_core.proofs.AskLaws.{summed-small, reads-one}
use Rattle.crack_core.proofs.cores.Core.sum.Goals as goal

pub returns-in-Ok-clause-sums : goal.returns-in-Ok-clause-sums
returns-in-Ok-clause-sums c =
    let core = c.args.self.now in
    let said : List PartReply = record { part = c.in-Some.part; reply = c.in-Ok.reply } ∷ [] in
    let small = summed-small c.in-Ok.reply c.in-Ok.ensures.small in
    reads-one core.limits core.splits c.args.policy (λ (part : Range). Sum part) (λ (said : List PartReply) (sum : ℤ). sum ≡ total_sum said) c.args.range c.in-Some.part c.in-Ok.reply _ core.parts c.ask_part.new.self.parts
    (rw c.splits.ensures.value at c.in-Some.ensures.one) c.in-Ok.ensures.asks.0 (omega (arith, ints, c.summed.ensures, small.0, small.1))
