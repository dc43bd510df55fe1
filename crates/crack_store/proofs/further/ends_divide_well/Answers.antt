use Rattle.std.proofs.Common.{inl, inr, rules}
use Rattle.crack_store.proofs.further.ends_divide_well.Goals as goal

pub returns-then-divides_well : goal.returns-then-divides_well
returns-then-divides_well c = (λ is. inl (search rules), λ well. search rules)

pub returns-else-divides_well : goal.returns-else-divides_well
returns-else-divides_well c = (
  λ is. inr (search rules),
  λ well. elim well [
    | inl low ↦ absurd (search rules)
    | inr high ↦ c.divides_well-else-divides_well.ensures.1 (rw c.high.ensures.value high)
  ],
)
