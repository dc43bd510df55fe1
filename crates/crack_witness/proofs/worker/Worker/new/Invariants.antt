use Rattle.std.proofs.Common.{◌≡◌, replicate}
use Rattle.crack_witness.proofs.worker.Worker.new.Given as goal

abbrev pub invariant-seen_by_part : goal.invariant-seen_by_part
invariant-seen_by_part g l = l.seen_by_part.items ≡ replicate l.part l.fn.seen_events
