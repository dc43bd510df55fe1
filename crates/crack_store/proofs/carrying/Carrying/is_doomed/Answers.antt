use Rattle.std.proofs.Common.{sym, ◌∙◌, inl, inr, arith}
use Rattle.std.proofs.lemmas.Bool.{cases_lt, true≢false}
use Rattle.crack_arena.specs.Arena.{times, slots}
use Rattle.crack_store.specs.Hand.{hand_of}
use Rattle.crack_store.proofs.carrying.Carrying.is_doomed.Goals as goal

pub returns-clause-doomed : goal.returns-clause-doomed
returns-clause-doomed c = λ set. rw (← c.self.view_is) ((rw c.aside_slot-slot.ensures at c.contains.ensures).0 set)

pub returns-clause-kept : goal.returns-clause-kept
returns-clause-kept c = λ clear. rw (← c.self.view_is) (elim (cases_lt 0 (times (hand_of c.self.inside.inside).slot (slots c.self.inside.inside.pending_out.handles))) [
  | inl l ↦ absurd (true≢false (sym ((rw c.aside_slot-slot.ensures at c.contains.ensures).1 l) ∙ clear))
  | inr l ↦ omega arith
])
