use Rattle.std.proofs.Common.{arith}
use Rattle.crack_store.specs.Hand.{carried_of}
use Rattle.crack_store.proofs.HandLemmas.{hand_absent}
use Rattle.crack_store.proofs.carrying.Carrying.find.Goals as goal

pub returns-then-aside_slot-slot-clause-value : goal.returns-then-aside_slot-slot-clause-value
returns-then-aside_slot-slot-clause-value c =
    rw (← c.self.view_is) (hand_absent (carried_of c.self.inside.inside) c.args.handle c.self.invariant.has.kept.intact (omega (arith, c.aside_slot.ensures, c.slot.ensures, c.if-aside_slot-slot.true)))
