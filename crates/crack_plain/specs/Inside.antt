-- What private clauses alone cite.
-- The replies to a delete and to an update, and what a row adds to a sum.
use Rattle.std.specs.Prelude.{ℤ, pos, Option, unwrap_or, option_map, cond}
use Rattle.crack_row.specs.Ranges.{Range, in_range}
use Rattle.crack_row.specs.Rows.{amount}
use Rattle.crack_row.specs.declared.Row.{Row}
use Rattle.crack_row.specs.declared.command.Reply.{Reply}
use Rattle.crack_row.specs.declared.command.Reply.TheVariants.{Gone, Changed, NoRow}

-- the reply to a delete: `Gone` with the row that the delete found, or `NoRow` if it found none
abbrev pub gone : Option Row → Reply
gone row = unwrap_or (option_map Gone row) NoRow

-- the reply to an update: `Changed` if the update found this row, or `NoRow` if it found none
abbrev pub rewritten : Option Row → Reply
rewritten row = unwrap_or (option_map (λ r. Changed) row) NoRow

-- what a row adds to the sum of a range: its payload if its key is in the range, otherwise 0
abbrev pub amount_in : Range → Row → ℤ
amount_in range row = cond (in_range range row) (amount row.payload) (pos 0)
