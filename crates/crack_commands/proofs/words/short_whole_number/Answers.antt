use Rattle.std.proofs.Common.{rules}
use Rattle.std.specs.Int.{w128}
use Rattle.std.proofs.lemmas.Int.{to_z-of_z}
use Rattle.crack_commands.proofs.Numbers.{short_whole}
use Rattle.crack_commands.proofs.words.short_whole_number.Goals as goal

pub returns : goal.returns
returns c =
    let word = c.without_spaces-word in
    rw (to_z-of_z w128 c.signed.result (search rules), c.signed.ensures, c.has_sign.ensures)
    (short_whole c.args.bytes.now word.result.now c.in_ok-value.value c.in_ok-value.rest.now word.ensures.words word.ensures.front (rw c.unsigned.ensures at c.in_ok-value.ensures))
