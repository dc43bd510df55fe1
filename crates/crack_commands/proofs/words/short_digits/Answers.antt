use Rattle.std.proofs.Common.{rules}
use Rattle.crack_commands.proofs.Numbers.{begins_with_digits}
use Rattle.crack_commands.proofs.words.short_digits.Goals as goal

pub returns-then-ends_at : goal.returns-then-ends_at
returns-then-ends_at c =
    let n = c.leading_number-value in
    begins_with_digits c.args.bytes.now n.result.1 n.result.0 c.if-end-gt0.true n.ensures.within n.ensures.digits n.ensures.value (search rules)
