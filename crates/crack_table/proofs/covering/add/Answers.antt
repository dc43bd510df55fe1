use Rattle.std.proofs.Common.{arith}
use Rattle.crack_table.proofs.StateLaws.{coverage_after, coverage_same, within_rows, within_read, row_read}
use Rattle.crack_table.proofs.covering.add.Goals as goal

pub index_mut-row-requires : goal.index_mut-row-requires
index_mut-row-requires c = let w = within_rows _ _ _ _ _ _ c.requires.1.by_place c.in-Some.ensures.1 in omega (arith, w)

pub update-requires : goal.update-requires
update-requires c = within_read _ _ _ _ _ _ _ c.requires.1.by_place c.in-Some.ensures.1 c.index_mut-row.ensures.value

pub returns-in_default-clause-coverage : goal.returns-in_default-clause-coverage
returns-in_default-clause-coverage c = λ done coverage. coverage_same _ _ done _ c.in_default.ensures coverage

pub returns-clause-coverage : goal.returns-clause-coverage
returns-clause-coverage c = λ done coverage.
    let there = c.in-Some.ensures in
    let row = row_read _ _ _ _ _ _ _ coverage.by_place there.1 c.index_mut-row.ensures.value in
    coverage_after _ c.args.states.now.items done c.args.receipt.now there.0 c.index_mut-row.result.now c.update.new.self c.in-Some.right there.1 row c.update.ensures there.2 coverage
