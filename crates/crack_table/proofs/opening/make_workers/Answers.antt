use Rattle.crack_table.proofs.Hiring.{new_more}
use Rattle.crack_table.proofs.opening.make_workers.Goals as goal

pub numbers-preserved : goal.numbers-preserved
numbers-preserved g c = rw c.in_ok-push.ensures.items (new_more c.numbers.number c.args.parts c.args.is_audited c.numbers.workers.items c.in_ok-new.field-0 c.numbers.invariant c.in_ok-new.ensures.new)
