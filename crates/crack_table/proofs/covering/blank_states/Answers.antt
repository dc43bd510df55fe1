use Rattle.crack_table.proofs.Opens.{blank_read}
use Rattle.crack_table.proofs.covering.blank_states.Goals as goal

pub parts-preserved : goal.parts-preserved
parts-preserved c = rw (c.in_ok-push.ensures.items, c.in_ok-new.ensures) (blank_read c.args.lists.now c.parts.states.items c.parts.list-index c.list-item.result c.parts-test.true c.list-item.is c.parts.invariant)
