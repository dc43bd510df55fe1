-- How partitions that are asked in turn go on, one more at a time, and what else is asked with them.
use Rattle.std.proofs.Common.{◌≡◌, ℕ, ◌+◌, ◌<◌, List, [], ◌∷◌, ◌++◌, length, take, drop, get_or, Result, Ok, Err, inl, inr, ap, refl, sym, subst, ◌∙◌}
use Rattle.std.proofs.lemmas.List.{take-append-drop, take_more, drop_more}
use Rattle.crack_row.specs.Ranges.{Range}
use Rattle.crack_row.specs.declared.command.Command.{Command}
use Rattle.crack_row.specs.declared.command.Policy.{Policy}
use Rattle.crack_row.specs.declared.command.Reply.{Reply}
use Rattle.crack_row.specs.declared.refusal.Refusal.{Refusal}
use Rattle.crack_core.specs.Steps.{mapped}
use Rattle.crack_core.specs.Asking.{InTurn, AsksEach}
use Rattle.crack_core.specs.declared.turns.PartReply.{PartReply}

-- a partition's reply, with its number
abbrev told : ℕ × Range → Reply → PartReply
told part reply = record { part = part.0; reply = reply }

-- if there are replies after one more, there were replies before
rest_replied : (first : PartReply) (said : List PartReply) (rest : Result (List PartReply) Refusal) → Ok said ≡ mapped (λ (replies : List PartReply). first ∷ replies) rest → (others : List PartReply) × (rest ≡ Ok others)
rest_replied first said (Ok others) is = (others, refl)
rest_replied first said (Err e) is = cc is

module _ {S : Type 0} (Asks : ℕ × Range → Result Reply Refusal → S → S → Type 0) where
  -- after those that replied, the next one replies
  one_replies : (old : S) (parts : List (ℕ × Range)) (part : ℕ × Range) (said : List PartReply) (reply : Reply) (between new : S) → InTurn Asks old parts (Ok said) between → Asks part (Ok reply) between new → InTurn Asks old (parts ++ part ∷ []) (Ok (said ++ told part reply ∷ [])) new
  one_replies old [] part said reply between new so_far asks =
      inl (
        reply,
        new,
        subst (λ (s : S). Asks part (Ok reply) s new) so_far.1 asks,
        Ok [],
        (refl, refl),
        ap (mapped (λ (replies : List PartReply). replies ++ told part reply ∷ [])) so_far.0,
      )
  one_replies old (p ∷ ps) part said reply between new (inl was) asks =
      let rest = rest_replied (told p was.0) said was.3 was.5 in
      let is : Ok said ≡ mapped (λ (replies : List PartReply). told p was.0 ∷ replies) (Ok rest.0) = subst (λ (r : Result (List PartReply) Refusal). Ok said ≡ mapped (λ (replies : List PartReply). told p was.0 ∷ replies) r) rest.1 was.5 in
      inl (
        was.0,
        was.1,
        was.2,
        Ok (rest.0 ++ told part reply ∷ []),
        one_replies was.1 ps part rest.0 reply between new (subst (λ (r : Result (List PartReply) Refusal). InTurn Asks was.1 ps r between) rest.1 was.4) asks,
        ap (mapped (λ (replies : List PartReply). replies ++ told part reply ∷ [])) is,
      )
  one_replies old (p ∷ ps) part said reply between new (inr was) asks = cc was.2

  -- after those that replied, the next one refuses, and those after it aren't asked
  one_refuses : (old : S) (parts : List (ℕ × Range)) (part : ℕ × Range) (behind : List (ℕ × Range)) (said : List PartReply) (e : Refusal) (between new : S) → InTurn Asks old parts (Ok said) between → Asks part (Err e) between new → InTurn Asks old (parts ++ part ∷ behind) (Err e) new
  one_refuses old [] part behind said e between new so_far asks = inr (e, subst (λ (s : S). Asks part (Err e) s new) so_far.1 asks, refl)
  one_refuses old (p ∷ ps) part behind said e between new (inl was) asks =
      let rest = rest_replied (told p was.0) said was.3 was.5 in
      inl (
        was.0,
        was.1,
        was.2,
        Err e,
        one_refuses was.1 ps part behind rest.0 e between new (subst (λ (r : Result (List PartReply) Refusal). InTurn Asks was.1 ps r between) rest.1 was.4) asks,
        refl,
      )
  one_refuses old (p ∷ ps) part behind said e between new (inr was) asks = cc was.2

  -- one more of these parts replies
  turns-more : (old : S) (parts : List (ℕ × Range)) (i : ℕ) (part : ℕ × Range) (said said' : List PartReply) (reply : Reply) (between new : S) → i < length parts → part ≡ get_or parts i part → said' ≡ said ++ told part reply ∷ [] → InTurn Asks old (take i parts) (Ok said) between → Asks part (Ok reply) between new → InTurn Asks old (take (i + 1) parts) (Ok said') new
  turns-more old parts i part said said' reply between new below at grown so_far asks =
      let more : take (i + 1) parts ≡ take i parts ++ part ∷ [] = take_more parts i part below ∙ ap (λ (p : ℕ × Range). take i parts ++ p ∷ []) (sym at) in
      rw (more, grown) (one_replies old (take i parts) part said reply between new so_far asks)

  -- the next one refuses
  turns-stop : (old : S) (parts : List (ℕ × Range)) (i : ℕ) (part : ℕ × Range) (said : List PartReply) (e : Refusal) (between new : S) → i < length parts → part ≡ get_or parts i part → InTurn Asks old (take i parts) (Ok said) between → Asks part (Err e) between new → InTurn Asks old parts (Err e) new
  turns-stop old parts i part said e between new below at so_far asks =
      let whole : take i parts ++ part ∷ drop (i + 1) parts ≡ parts = ap (λ (p : ℕ × Range). take i parts ++ p ∷ drop (i + 1) parts) at ∙ ap (λ (r : List (ℕ × Range)). take i parts ++ r) (sym (drop_more parts i part below)) ∙ take-append-drop i parts in
      subst (λ (ps : List (ℕ × Range)). InTurn Asks old ps (Err e) new) whole (one_refuses old (take i parts) part (drop (i + 1) parts) said e between new so_far asks)

  -- if another state goes along with each of these calls, it goes along with all of them
  pub turns-along : {T : Type 0} (Others : ℕ × Range → Result Reply Refusal → T → T → Type 0) (Meet : S → T → Type 0) → ((part : ℕ × Range) (outcome : Result Reply Refusal) (old new : S) (other : T) → Meet old other → Asks part outcome old new → (next : T) × Others part outcome other next × Meet new next)
      → (old : S) (other : T) (parts : List (ℕ × Range)) (result : Result (List PartReply) Refusal) (new : S) → Meet old other → InTurn Asks old parts result new → (next : T) × InTurn Others other parts result next × Meet new next
  turns-along Others Meet along old other [] result new meet so_far = (other, (so_far.0, refl), subst (λ (s : S). Meet s other) (sym so_far.1) meet)
  turns-along Others Meet along old other (part ∷ parts) result new meet (inl was) =
      let one = along part (Ok was.0) old was.1 other meet was.2 in
      let rest = turns-along Others Meet along was.1 one.0 parts was.3 new one.2 was.4 in
      (rest.0, inl (was.0, one.0, one.1, was.3, rest.1, was.5), rest.2)
  turns-along Others Meet along old other (part ∷ parts) result new meet (inr was) =
      let one = along part (Err was.0) old new other meet was.1 in
      (one.0, inr (was.0, one.1, was.2), one.2)

-- where asking a partition has this effect, one more of them replies
pub each-more : {S : Type 0} (asks : S → ℕ → Command → Policy → Result Reply Refusal → S → Type 0) (policy : Policy) (question : Range → Command) (old : S) (parts : List (ℕ × Range)) (i : ℕ) (part : ℕ × Range) (command : Command) (said said' : List PartReply) (reply : Reply) (between new : S) → i < length parts → part ≡ get_or parts i part → command ≡ question part.1 → said' ≡ said ++ told part reply ∷ [] → AsksEach asks policy question old (take i parts) (Ok said) between → asks between part.0 command policy (Ok reply) new → AsksEach asks policy question old (take (i + 1) parts) (Ok said') new
each-more {S} asks policy question old parts i part command said said' reply between new below at asked grown so_far now =
    turns-more (λ (part : ℕ × Range) (outcome : Result Reply Refusal) (s t : S). asks s part.0 (question part.1) policy outcome t) old parts i part said said' reply between new below at grown so_far (rw asked at now)

-- and the next one refuses
pub each-stop : {S : Type 0} (asks : S → ℕ → Command → Policy → Result Reply Refusal → S → Type 0) (policy : Policy) (question : Range → Command) (old : S) (parts : List (ℕ × Range)) (i : ℕ) (part : ℕ × Range) (command : Command) (said : List PartReply) (e : Refusal) (between new : S) → i < length parts → part ≡ get_or parts i part → command ≡ question part.1 → AsksEach asks policy question old (take i parts) (Ok said) between → asks between part.0 command policy (Err e) new → AsksEach asks policy question old parts (Err e) new
each-stop {S} asks policy question old parts i part command said e between new below at asked so_far now =
    turns-stop (λ (part : ℕ × Range) (outcome : Result Reply Refusal) (s t : S). asks s part.0 (question part.1) policy outcome t) old parts i part said e between new below at so_far (rw asked at now)
