use Rattle.std.proofs.Common.{◌≡◌, arith, length, map, refl}
use Rattle.std.proofs.lemmas.List.{length-map}
use Rattle.crack_table.proofs.Opens.{the_list, is_covered, is_gap, covered_more, all_covered}
use Rattle.crack_table.proofs.covering.first_gap.Goals as goal

pub returns-in-Some-clause-some : goal.returns-in-Some-clause-some
returns-in-Some-clause-some c = λ receipts coverage.
    let list = the_list c.args.lists.now c.args.states.now.items receipts coverage c.parts.part c.index.result.now (omega (arith, c.parts-test.true)) c.index.ensures in
    (list.0, list.1, is_gap c.args.lists.now c.args.states.now.items receipts coverage c.parts.part c.index.result.now (omega (arith, c.parts-test.true)) c.index.ensures _ c.in-Some.ensures, c.parts.invariant receipts coverage)

pub parts-preserved : goal.parts-preserved
parts-preserved c = λ receipts coverage.
    let list = the_list c.args.lists.now c.args.states.now.items receipts coverage c.parts.part c.index.result.now (omega (arith, c.parts-test.true)) c.index.ensures in
    covered_more _ receipts c.parts.part list.0 list.1 (is_covered c.args.lists.now c.args.states.now.items receipts coverage c.parts.part c.index.result.now (omega (arith, c.parts-test.true)) c.index.ensures c.in_default.ensures) (c.parts.invariant receipts coverage)

pub returns-clause-none : goal.returns-clause-none
returns-clause-none c = λ receipts coverage.
    let long : length (map (λ l. l.now) c.args.lists.now) ≡ length c.args.lists.now = simp length-map refl in
    all_covered _ receipts c.parts.part (omega (arith, long, c.parts-test.false)) (c.parts.invariant receipts coverage)
