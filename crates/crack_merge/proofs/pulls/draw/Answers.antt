use Rattle.std.proofs.Common.{◌<◌, ◌≤◌, sym, ◌∙◌, arith, ◌≡◌, ◌≢◌, ℕ, true, false, ◌∷◌, [], refl, inl, inr}
use Rattle.std.specs.Prelude.{◌==◌}
use Rattle.std.specs.List.{Contains}
use Rattle.std.proofs.lemmas.Bool.{and_parts, true≢false, eqb-true, eq-eqb}
use Rattle.crack_arena.specs.Arena.{Handle, StandsAt, IsFirstAt, IsAbsent, same_handle}
use Rattle.crack_state.specs.Steps.{hand_key, piece_start, exchanged, buried, piece_end, pulled_back, PullsBack}
use Rattle.crack_state.proofs.DrawLaws.{IsAhead-pulled_back, IsAhead, doomed_is_hand, hand_isnt}
use Rattle.crack_state.proofs.PullLaws.{IsIntact-pulled_back}
use Rattle.crack_state.specs.State.{State, Carried, IsIntact}
use Rattle.crack_state.proofs.CellLaws.{handle_same}
use Rattle.crack_merge.specs.Merges.{Pulls, reaches, exchanges, draws}
use Rattle.crack_merge.proofs.PullLaws.{exchanged_hand}
use Rattle.crack_merge.proofs.Pulling.{contained_stands}
use Rattle.crack_merge.proofs.pulls.draw.Goals as goal
use Rattle.crack_merge.proofs.pulls.draw.Goals.{After-pull_down}

-- it isn't in the column
hand_absent : (c : Carried) (doomed : Handle) → IsIntact c.store (c.hand ∷ []) → Contains c.store.pending_out doomed → IsAbsent c.store.column doomed → c.hand ≡ doomed
hand_absent c doomed intact pending absent = doomed_is_hand c pending.0 doomed intact (contained_stands c.store.pending_out doomed pending) absent

-- it is before the own piece of the hand
stands_before : (c : Carried) (place : ℕ) (doomed : Handle) → place < piece_start c.store (hand_key c) → IsIntact c.store (c.hand ∷ []) → IsAhead c place doomed → StandsAt c.store.column place doomed × (c.hand ≢ doomed)
stands_before c place doomed before intact ahead = elim ahead [
  | inl is ↦ absurd (omega (arith, before, is.1))
  | inr at ↦ (at.0, hand_isnt c place doomed intact at.0)
]

-- what the comparison of two handles implies
same_handle-true : (h g : Handle) → same_handle h g ≡ true → h ≡ g
same_handle-true h g is =
    let both = and_parts (h.slot == g.slot) (h.generation == g.generation) is in
    handle_same h g (eqb-true h.slot g.slot both.0) (eqb-true h.generation g.generation both.1)

same_handle-false : (h g : Handle) → same_handle h g ≡ false → h ≢ g
same_handle-false h g is = λ e. absurd (true≢false (rw (e, eq-eqb g.slot g.slot refl, eq-eqb g.generation g.generation refl) at is))

-- it isn't in hand
stands_ahead : (c : Carried) (place : ℕ) (doomed : Handle) → same_handle c.hand doomed ≡ false → IsAhead c place doomed → (c.hand ≢ doomed) × StandsAt c.store.column place doomed × (place < piece_end c.store (hand_key c))
stands_ahead c place doomed differ ahead =
    let other = same_handle-false c.hand doomed differ in
    elim ahead [ inl is ↦ absurd (other is.0) | inr at ↦ (other, at.0, at.1) ]

pub returns-in_default-clause-pulls : goal.returns-in_default-clause-pulls
returns-in_default-clause-pulls c = rw c.find.ensures.same (reaches c.args.carrying.now (hand_absent c.args.carrying.now c.args.doomed c.recall_invariant.ensures c.requires.pending c.in_default.ensures.value))

pub returns-in_default-clause-hand : goal.returns-in_default-clause-hand
returns-in_default-clause-hand c = rw c.find.ensures.same (hand_absent c.args.carrying.now c.args.doomed c.recall_invariant.ensures c.requires.pending c.in_default.ensures.value)

pub returns-in_default-clause-pending_out : goal.returns-in_default-clause-pending_out
returns-in_default-clause-pending_out c = rw c.find.ensures.same refl

-- pulls that reach a row whose piece doesn't begin after the place
record IsPulled (doomed : Handle) (place : ℕ) (c e : Carried) : Type 0 where
  pub same : e.store.pending_out ≡ c.store.pending_out
  pub ahead : IsAhead e place doomed
  pub pulls : (t : State) → Pulls doomed e t → Pulls doomed c t

pulled : (doomed : Handle) (place : ℕ) (c e : Carried) → PullsBack place c e → IsIntact c.store (c.hand ∷ []) → IsAhead c place doomed → IsPulled doomed place c e
pulled doomed place c e (PullsBack.stays d) intact ahead = record { same = refl; ahead = ahead; pulls = λ t rest. rest }
pulled doomed place c e (PullsBack.pulls d f before rest) intact ahead =
    let kept = IsIntact-pulled_back d (omega arith) intact in
    let at = stands_before d place doomed before intact ahead in
    let on = pulled doomed place (pulled_back d) f rest kept (IsAhead-pulled_back d place doomed before intact kept ahead) in
    record { same = on.same; ahead = on.ahead; pulls = λ t more. draws d place t at.1 at.0 before (on.pulls t more) }

-- the steps of a pull whose doomed row was found
pulled_from : (doomed : Handle) (place : ℕ) (c d e : Carried) → d ≡ c → PullsBack place d e → IsIntact c.store (c.hand ∷ []) → IsFirstAt c.store.column doomed place → ((k : ℕ) → StandsAt c.store.column k doomed → k < piece_end c.store (hand_key c)) → IsPulled doomed place c e
pulled_from doomed place c d e same drawn intact first ahead = pulled doomed place c e (rw same at drawn) intact (inr (first.here, ahead place first.here))

-- the hand has reached the doomed row's piece
way : (c : After-pull_down) → IsPulled c.args.doomed c.in-Some.place c.args.carrying.now c.pull_down.new.self
way c = pulled_from c.args.doomed c.in-Some.place c.args.carrying.now c.find.new.self c.pull_down.new.self c.find.ensures.same c.pull_down.ensures.pulls c.recall_invariant.ensures c.in-Some.ensures.value c.requires.ahead

pub returns-then-holds-clause-pulls : goal.returns-then-holds-clause-pulls
returns-then-holds-clause-pulls c =
    let is = same_handle-true c.pull_down.new.self.hand c.args.doomed (sym c.holds.ensures ∙ c.if-holds.true) in
    (way (goal.at.returns-then-holds-clause-pulls c).After-pull_down).pulls (buried c.pull_down.new.self) (reaches c.pull_down.new.self is)

pub returns-then-holds-clause-hand : goal.returns-then-holds-clause-hand
returns-then-holds-clause-hand c = same_handle-true c.pull_down.new.self.hand c.args.doomed (sym c.holds.ensures ∙ c.if-holds.true)

pub returns-then-holds-clause-pending_out : goal.returns-then-holds-clause-pending_out
returns-then-holds-clause-pending_out c = (way (goal.at.returns-then-holds-clause-pending_out c).After-pull_down).same

-- the doomed row is in the own piece of the hand
apart : (c : After-pull_down) → same_handle c.pull_down.new.self.hand c.args.doomed ≡ false → (c.pull_down.new.self.hand ≢ c.args.doomed) × StandsAt c.pull_down.new.self.store.column c.in-Some.place c.args.doomed × (c.in-Some.place < piece_end c.pull_down.new.self.store (hand_key c.pull_down.new.self))
apart c differ = stands_ahead c.pull_down.new.self c.in-Some.place c.args.doomed differ (way c).ahead

pub exchange-requires-clause-to : goal.exchange-requires-clause-to
exchange-requires-clause-to c = (apart (goal.at.exchange-requires-clause-to c).After-pull_down (sym c.holds.ensures ∙ c.if-holds.false)).2

pub returns-clause-pulls : goal.returns-clause-pulls
returns-clause-pulls c =
    let carried = c.pull_down.new.self in
    let place = c.in-Some.place in
    let at = apart (goal.at.returns-clause-pulls c).After-pull_down (sym c.holds.ensures ∙ c.if-holds.false) in
    let from : piece_start carried.store (hand_key carried) ≤ place = c.pull_down.ensures.ends in
    rw c.exchange.ensures.after ((way (goal.at.returns-clause-pulls c).After-pull_down).pulls (buried (exchanged place carried)) (exchanges carried place at.0 at.1 from at.2))

pub returns-clause-hand : goal.returns-clause-hand
returns-clause-hand c =
    let at = apart (goal.at.returns-clause-hand c).After-pull_down (sym c.holds.ensures ∙ c.if-holds.false) in
    rw c.exchange.ensures.after (exchanged_hand c.pull_down.new.self c.in-Some.place c.args.doomed at.1)

pub returns-clause-pending_out : goal.returns-clause-pending_out
returns-clause-pending_out c = rw c.exchange.ensures.after (way (goal.at.returns-clause-pending_out c).After-pull_down).same
