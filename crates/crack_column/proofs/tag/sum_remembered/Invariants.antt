use Rattle.std.proofs.Common.{◌≡◌, ◌*◌, take, pos, neg_ℤ, ◌≤ℤ◌}
use Rattle.crack_row.specs.Rows.{amount, total_by, farthest_amount}
use Rattle.crack_column.proofs.tag.sum_remembered.Given as goal

abbrev pub invariant-payloads : goal.invariant-payloads
invariant-payloads l =
    (l.sum ≡ total_by amount (take l.i l.payloads)) × (neg_ℤ (pos (l.i * farthest_amount)) ≤ℤ l.sum) × (l.sum ≤ℤ pos (l.i * farthest_amount))
