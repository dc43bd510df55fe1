use Rattle.std.proofs.Common.{◌≡◌, take}
use Rattle.crack_core.specs.Asking.{total_rows}
use Rattle.crack_core.proofs.turns.total_rows.Given as goal

abbrev pub invariant-replies : goal.invariant-replies
invariant-replies l = record {
  total : l.total ≡ total_rows (take l.reply-index l.replies);
}
