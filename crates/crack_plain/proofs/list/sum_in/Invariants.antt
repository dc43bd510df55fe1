use Rattle.std.proofs.Common.{◌≡◌, ◌*◌, take, pos, neg_ℤ, ◌≤ℤ◌}
use Rattle.crack_row.specs.Rows.{total_by, farthest_amount}
use Rattle.crack_plain.specs.Inside.{amount_in}
use Rattle.crack_plain.proofs.list.sum_in.Given as goal

abbrev pub invariant-rows : goal.invariant-rows
invariant-rows l =
    (l.sum ≡ total_by (amount_in l.range) (take l.place l.rows)) × (neg_ℤ (pos (l.place * farthest_amount)) ≤ℤ l.sum) × (l.sum ≤ℤ pos (l.place * farthest_amount))
