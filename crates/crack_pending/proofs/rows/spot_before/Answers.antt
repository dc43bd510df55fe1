use Rattle.std.proofs.Common.{◌+◌, arith}
use Rattle.crack_pending.proofs.Kept.{place_at-counted, place_at-few}
use Rattle.crack_pending.proofs.rows.spot_before.Goals as goal

pub overflow_add-before : goal.overflow_add-before
overflow_add-before c =
    let counted = place_at-counted c.args.stands.now c.args.from (omega arith) in
    omega (arith, c.requires.before, counted, place_at-few c.args.stands.now (c.args.from + 1), c.requires.near)

pub returns-then-before-stands-clause-place : goal.returns-then-before-stands-clause-place
returns-then-before-stands-clause-place c =
    let counted = place_at-counted c.args.stands.now c.args.from (omega arith) in
    omega (arith, c.requires.before, counted, c.if-before-stands.true)
