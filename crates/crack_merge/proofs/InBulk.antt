-- All pending insertions of a range in bulk: the same as one carry after another.
use Rattle.std.proofs.Common.{ℕ, [], Option, Some, None, refl, inl, inr, arith}
use Rattle.std.proofs.lemmas.Bool.{cases_lt, lt-leb}
use Rattle.crack_row.specs.Ranges.{Range}
use Rattle.crack_arena.specs.Rows.{keys_at}
use Rattle.crack_pending.specs.Pending.{Finds}
use Rattle.crack_state.specs.State.{State, Carried, IsIntact}
use Rattle.crack_state.specs.Steps.{pushed_on, hand_key, SameButRoom}
use Rattle.crack_state.specs.Carried.{carried_in_bulk}
use Rattle.crack_state.proofs.Carried.{Leads}
use Rattle.crack_state.proofs.AllCarriedLaws.{IsUnder, in_bulk-through}
use Rattle.crack_merge.specs.Merges.{IsCeiling, Carries, buries, evicts, ends, goes_on, CarriesIn, CarriesAll, begins, carries}

-- if a carry leads to a store, it leads there by its rules
Carries-Leads : (ceiling : Option ℕ) (c : Carried) (t : State) → Leads ceiling c t → Carries ceiling c t
Carries-Leads ceiling c t (Leads.buries d doomed) = buries d doomed
Carries-Leads None c t (Leads.evicts d lasting over) = absurd (over tt)
Carries-Leads (Some bound) c t (Leads.evicts d lasting over) =
    evicts d bound lasting refl (elim (cases_lt (hand_key d) bound) [ inl l ↦ absurd (over l) | inr l ↦ l ])
Carries-Leads ceiling c t (Leads.ends d lasting below at_end) = ends d lasting below at_end
Carries-Leads ceiling c t (Leads.goes_on d u lasting below before rest) = goes_on d u lasting below before (Carries-Leads ceiling (pushed_on d) u rest)

-- no key of a range is at or above its ceiling
under : (ceiling : Option ℕ) (r : Range) → IsCeiling ceiling r → IsUnder ceiling r
under None r high key inside = refl
under (Some bound) r high key inside = lt-leb bound key (omega (arith, inside.1, high))

-- all pending insertions of a range in bulk: the same as one carry after another
pub CarriesAll-in_bulk : (ceiling : Option ℕ) (r : Range) (s u : State) (first : ℕ) → IsCeiling ceiling r → IsIntact s [] → Finds r (keys_at s.cells s.pending_in) 0 (Some first) → SameButRoom (carried_in_bulk ceiling r s) u → CarriesAll ceiling r s u
CarriesAll-in_bulk ceiling r s u first high intact found room =
    let all = in_bulk-through ceiling r (CarriesIn ceiling r s) s u first (under ceiling r high) (λ from place t v w before whole finds made leads. carries from place t v w before finds made (Carries-Leads ceiling _ w leads)) begins intact found room in
    record { from = all.from; carries = all.on; none = all.none }
