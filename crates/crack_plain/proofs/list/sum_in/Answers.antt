use Rattle.std.proofs.Common.{sym, ap, ◌∙◌, arith}
use Rattle.std.proofs.lemmas.Int.{ints, to_z-of_z}
use Rattle.std.proofs.lemmas.List.Sums.{fold_more}
use Rattle.std.proofs.lemmas.List.{take_all}
use Rattle.crack_row.specs.Ranges.{in_range}
use Rattle.crack_row.specs.Rows.{amount, total_by}
use Rattle.crack_row.specs.declared.Row.{Row}
use Rattle.crack_row.proofs.Totals.{total_by-filter}
use Rattle.crack_plain.specs.Inside.{amount_in}
use Rattle.crack_plain.proofs.list.sum_in.Goals as goal

pub rows-preserved : goal.rows-preserved
rows-preserved c =
    (grind (arith, ints, to_z-of_z, fold_more), omega (arith, ints, c.amount_in-sum.ensures.least, c.rows.invariant), omega (arith, ints, c.amount_in-sum.ensures.most, c.rows.invariant))

pub returns-clause-is : goal.returns-clause-is
returns-clause-is c =
    c.rows.invariant.0 ∙ ap (total_by (amount_in c.args.range)) (take_all c.rows.place c.args.rows.now (omega arith)) ∙ sym (total_by-filter (λ (row : Row). amount row.payload) (in_range c.args.range) c.args.rows.now)
