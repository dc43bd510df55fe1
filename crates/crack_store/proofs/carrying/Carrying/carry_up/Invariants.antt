use Rattle.crack_state.specs.Steps.{hand_key, bounds_above, ceiling_of, PushesOn}
use Rattle.crack_store.proofs.carrying.Carrying.carry_up.Given as goal

abbrev pub invariant-walks : goal.invariant-walks
invariant-walks l = PushesOn (ceiling_of l.fn.ceiling) l.fn.self l.self

abbrev pub decreases-walks : goal.decreases-walks
decreases-walks l = bounds_above (hand_key l.self) l.self.store.marks
