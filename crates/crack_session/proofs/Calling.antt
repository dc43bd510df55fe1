-- The calls of a desk, one after the other.
use Rattle.std.specs.Prelude.{◌≡◌, ◌<◌, List, [], ◌∷◌, ◌++◌, length, ℕ}
use Rattle.std.proofs.Common.{refl, subst, arith}
use Rattle.crack_row.specs.Ranges.{Range}
use Rattle.crack_row.specs.declared.command.Command.{Command}
use Rattle.crack_row.specs.declared.command.Policy.{Policy}
use Rattle.crack_session.specs.declared.answer.Answer.{Answer}
use Rattle.crack_core.specs.declared.turns.PartReply.{PartReply}
use Rattle.crack_session.specs.Calls.{Call, Calls, AreSeveralAsked, ArePartsAsked}

-- one call
pub Calls-one : {D : Type 0} (leads : D → Call → D → Type 0) (old : D) (call : Call) (new : D) → leads old call new → Calls leads old (call ∷ []) new
Calls-one leads old call new led = (new, led, refl)

-- some calls, and then others
pub Calls-then : {D : Type 0} (leads : D → Call → D → Type 0) (old : D) (calls : List Call) (between : D) (more : List Call) (new : D) → Calls leads old calls between → Calls leads between more new → Calls leads old (calls ++ more) new
Calls-then leads old [] between more new were then = subst (λ d. Calls leads d more new) were then
Calls-then leads old (call ∷ calls) between more new were then = (were.0, were.1, Calls-then leads were.0 calls between more new were.2 then)

-- one more call
pub Calls-push : {D : Type 0} (leads : D → Call → D → Type 0) (old : D) (calls : List Call) (between : D) (call : Call) (new : D) → Calls leads old calls between → leads between call new → Calls leads old (calls ++ call ∷ []) new
Calls-push leads old calls between call new were led = Calls-then leads old calls between (call ∷ []) new were (Calls-one leads between call new led)

-- more than one part
pub ArePartsAsked-several : (policy : Policy) (question : Range → Command) (join : List PartReply → Answer) (parts : List (ℕ × Range)) (answer : Answer) (calls : List Call) → 1 < length parts → AreSeveralAsked policy question join parts answer calls → ArePartsAsked policy question join parts answer calls
ArePartsAsked-several policy question join [] answer calls many asked = asked
ArePartsAsked-several policy question join (part ∷ []) answer calls many asked = absurd (omega (arith, many))
ArePartsAsked-several policy question join (part ∷ next ∷ parts) answer calls many asked = asked
