use Rattle.std.proofs.Common.{◌≡◌, ◌*◌, ◌^◌, take, pos, neg_ℤ, ◌≤ℤ◌}
use Rattle.crack_core.specs.Asking.{total_sum}
use Rattle.crack_core.proofs.turns.total_sum.Given as goal

abbrev pub invariant-replies : goal.invariant-replies
invariant-replies l =
    (l.total ≡ total_sum (take l.reply-index l.replies)) × (neg_ℤ (pos (l.reply-index * 2 ^ 96)) ≤ℤ l.total) × (l.total ≤ℤ pos (l.reply-index * 2 ^ 96))
