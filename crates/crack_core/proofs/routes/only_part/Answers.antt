use Rattle.std.proofs.Common.{◌<◌, ◌≤◌, arith, rules}
use Rattle.crack_core.proofs.RouteLaws.{parts_of-one, parts_of-several}
use Rattle.crack_core.proofs.routes.only_part.Goals as goal

pub returns-then-lt-clause-several : goal.returns-then-lt-clause-several
returns-then-lt-clause-several c =
    let filled : c.args.range.low < c.args.range.high = grind arith in
    let end = rw (c.splits_up_to-first.ensures.value, c.low.ensures.value) at c.high_end.ensures in
    let past : c.high_end.result.0 < c.high.result.0 = search rules in
    parts_of-several c.args.splits.now c.args.range c.requires filled (omega arith) (omega (arith, end, past))

pub returns-clause-one : goal.returns-clause-one
returns-clause-one c =
    let filled : c.args.range.low < c.args.range.high = grind arith in
    let end = rw (c.splits_up_to-first.ensures.value, c.low.ensures.value) at c.high_end.ensures in
    let within : c.high.result.0 ≤ c.high_end.result.0 = search rules in
    rw (c.splits_up_to-first.ensures.value, c.low.ensures.value) (parts_of-one c.args.splits.now c.args.range c.requires filled (omega arith) (omega (arith, end, within)))
