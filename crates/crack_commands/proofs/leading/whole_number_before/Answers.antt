use Rattle.std.proofs.Common.{rules}
use Rattle.std.specs.Int.{w128}
use Rattle.std.proofs.lemmas.Int.{to_z-of_z}
use Rattle.crack_commands.proofs.Numbers.{whole_before}
use Rattle.crack_commands.proofs.leading.whole_number_before.Goals as goal

pub returns : goal.returns
returns c =
    let n = c.in_ok-value in
    rw (to_z-of_z w128 c.signed-number.result (search rules), c.signed-number.ensures, c.has_sign.ensures, c.unsigned-digits.ensures)
    (whole_before c.args.bytes.now c.args.stop n.value n.count (rw c.unsigned-digits.ensures at n.ensures.within) (rw c.unsigned-digits.ensures at n.ensures.stop) (rw c.unsigned-digits.ensures at n.ensures.digits) (rw c.unsigned-digits.ensures at n.ensures.value))
