use Rattle.std.proofs.lemmas.Option.{IfSome_then}
use Rattle.crack_commands.proofs.Numbers.{short_number}
use Rattle.crack_commands.proofs.words.short_number.Goals as goal

pub returns : goal.returns
returns c =
    IfSome_then c.short_digits.result c.short_digits.ensures (λ pair. short_number c.args.bytes.now c.without_spaces.result.now pair.0 pair.1.now c.without_spaces.ensures.words c.without_spaces.ensures.front)
