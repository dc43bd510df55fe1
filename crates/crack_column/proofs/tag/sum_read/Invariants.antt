use Rattle.std.proofs.Common.{◌≡◌, ◌*◌, take, pos, neg_ℤ, ◌≤ℤ◌}
use Rattle.crack_row.specs.Rows.{total_by, farthest_amount}
use Rattle.crack_arena.specs.Rows.{amount_at}
use Rattle.crack_column.specs.Places.{tag_handle}
use Rattle.crack_column.specs.Labels.{tags_of}
use Rattle.crack_column.proofs.tag.sum_read.Given as goal

abbrev pub invariant-tags : goal.invariant-tags
invariant-tags l =
    (l.sum ≡ total_by (λ t. amount_at l.arena.cells (tag_handle t)) (take l.i (tags_of l.labels l.payloads))) × (neg_ℤ (pos (l.i * farthest_amount)) ≤ℤ l.sum) × (l.sum ≤ℤ pos (l.i * farthest_amount))
