use Rattle.std.proofs.Common.{sym, ◌∙◌, arith}
use Rattle.crack_pending.proofs.Kept.{place_at-before, place_at-hole_before, place_at-hole_behind}
use Rattle.crack_pending.proofs.rows.hint_without.Goals as goal

pub overflow_sub-result : goal.overflow_sub-result
overflow_sub-result c =
    omega (arith, place_at-before c.args.stands.now c.args.spot c.args.hint_spot c.requires.stands c.if-spot-hint_spot.true, c.requires.hinted)

pub returns-then-spot-hint_spot : goal.returns-then-spot-hint_spot
returns-then-spot-hint_spot c =
    omega (arith, place_at-hole_before c.args.stands.now c.args.spot c.args.hint_spot c.requires.stands c.if-spot-hint_spot.true, c.requires.hinted)

pub returns-else-spot-hint_spot : goal.returns-else-spot-hint_spot
returns-else-spot-hint_spot c =
    c.requires.hinted ∙ sym (place_at-hole_behind c.args.stands.now c.args.spot c.args.hint_spot c.if-spot-hint_spot.false)
