use Rattle.std.proofs.Common.{◌-◌, arith, length, ap}
use Rattle.std.proofs.lemmas.Bool.{false≢true}
use Rattle.crack_core.proofs.RouteLaws.{first-le-last, length-parts_of, route-le}
use Rattle.crack_core.proofs.routes.parts_of.Goals as goal

pub overflow_sub-last : goal.overflow_sub-last
overflow_sub-last c =
    let splits = c.args.splits.now in
    let range = c.args.range in
    let order = first-le-last splits range c.requires c.in_default.ensures.filled c.high.ensures.bounded in
    let first = rw c.low.ensures.value at c.splits_up_to-first.ensures.value in
    let last = rw c.high.ensures.value at c.splits_below-last.ensures.value in
    omega (arith, order, first, last)

pub returns-in_err-reserve-clause-spare : goal.returns-in_err-reserve-clause-spare
returns-in_err-reserve-clause-spare c = λ few.
    let splits = c.args.splits.now in
    let range = c.args.range in
    let long = length-parts_of splits range c.requires c.in_default.ensures.filled c.high.ensures.bounded in
    let first = rw c.low.ensures.value at c.splits_up_to-first.ensures.value in
    let last = rw c.high.ensures.value at c.splits_below-last.ensures.value in
    let none = ap length c.new-parts.ensures.items in
    absurd (false≢true (c.in_err-reserve.ensures.succeeds (omega (arith, few, long, first, last, none))))

pub returns-clause-few : goal.returns-clause-few
returns-clause-few c =
    let splits = c.args.splits.now in
    let range = c.args.range in
    let long = length-parts_of splits range c.requires c.in_default.ensures.filled c.high.ensures.bounded in
    let within = route-le splits (range.high - 1) in
    omega (arith, long, within, ap length c.push_parts.ensures)
