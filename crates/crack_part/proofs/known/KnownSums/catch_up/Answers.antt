use Rattle.std.proofs.Common.{◌≤◌, arith, refl, sym, subst}
use Rattle.crack_part.specs.KnownSums.{Known, KnowsSums}
use Rattle.crack_part.proofs.KnownLemmas.{Knows-left}
use Rattle.crack_part.proofs.known.KnownSums.catch_up.Goals as goal
use Rattle.crack_part.proofs.known.KnownSums.catch_up.Goals.{then-not-is_empty, else-not-is_empty}

pub returns-clause-knows : goal.returns-clause-knows
returns-clause-knows c = λ plain numbered faithful now.
    let knows = subst (λ (k : Known). KnowsSums k plain) (sym c.self.view_is) (rw c.forget_if_late.ensures (Knows-left c.args.next c.args.self.now plain now)) in
    let order : c.self.inside.since ≤ c.args.next = omega (arith, knows.past, faithful.serial) in
    elim c.if-not-is_empty.branch [
      | then-not-is_empty w ↦ (record { past = omega (arith, faithful.serial); right = rw w.self-inside-is (w.take_in.ensures.right plain numbered faithful order knows.right) }, refl)
      | else-not-is_empty w ↦ (record { past = omega (arith, faithful.serial); right = rw (w.self-inside-is, w.if-not-is_empty.ensures.0 refl) tt }, refl)
    ]
