use Rattle.std.proofs.Common.{refl}
use Rattle.std.specs.Int.{w128}
use Rattle.std.proofs.lemmas.Int.{to_z-of_z}
use Rattle.crack_commands.proofs.words.is_payload.Goals as goal

pub returns-else-number : goal.returns-else-number
returns-else-number c =
    let same = to_z-of_z w128 c.args.number c.ranges.number in
    let below = rw same at c.if-number.false in
    rw (same, below) refl
