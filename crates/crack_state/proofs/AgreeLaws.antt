-- Two key functions, and two tests of what ends a carry, that agree on all rows of pieces and events have the same result.
use Rattle.std.proofs.Common.{◌≡◌, ℕ, Bool, true, ltb, List, [], ◌∷◌, refl, ap, ◌∙◌, inl, inr}
use Rattle.std.specs.List.{All}
use Rattle.std.proofs.lemmas.Bool.{cases_Bool}
use Rattle.std.proofs.lemmas.List.Elements.{All-head, All-tail, All-push, All-take, All-drop}
use Rattle.crack_index.specs.declared.mark.Mark.{Mark}
use Rattle.crack_state.specs.Pieces.{Pieces, last, below, cut}
use Rattle.crack_state.specs.Queues.{CarryState, comes, turns, stopped, is_below, any_row, after_event, next}
use Rattle.crack_state.proofs.OneByOne.{reached, outcome, one_at_a_time, outcomes}

module _ {X : Type 0} where
  -- each row of the pieces has the property
  abbrev pub Each : (X → Type 0) → Pieces X → Type 0
  Each P (last rows) = All P rows
  Each P (below rows bound pieces) = All P rows × Each P pieces

  -- a row that comes in has the property
  abbrev pub OfComing : (X → Type 0) → CarryState X → Type 0
  OfComing P (comes x) = P x
  OfComing P (turns moved) = Unit {0}
  OfComing P (stopped moved y) = Unit {0}

  pub Each-cut : (P : X → Type 0) (place : ℕ) (marks : List Mark) (rows : List X) → All P rows → Each P (cut place marks rows)
  Each-cut P place [] rows all = all
  Each-cut P place (m ∷ ms) rows all = (All-take P _ rows all, Each-cut P m.position ms _ (All-drop P _ rows all))

module _ {X : Type 0} (key : X → ℕ) (stops : X → Bool) (P : X → Type 0) where
  All-after : (own : X → Bool) (e : CarryState X) (rows : List X) → OfComing P e → All P rows → All P (after_event key stops own e rows)
  All-after own (comes x) rows one all = elim (cases_Bool (own x)) [
    | inl is ↦ rw is (All-push P rows x all one)
    | inr not ↦ rw not all
  ]
  All-after own (turns moved) [] one all = all
  All-after own (turns moved) (y ∷ ys) one all = elim (cases_Bool (stops y)) [
    | inl is ↦ rw is (All-tail P y ys all)
    | inr not ↦ rw not (All-push P ys y (All-tail P y ys all) (All-head P y ys all))
  ]
  All-after own (stopped moved y) rows one all = all

  pub OfComing-next : (own : X → Bool) (e : CarryState X) (rows : List X) → OfComing P e → OfComing P (next key stops own e rows)
  OfComing-next own (comes x) rows one = elim (cases_Bool (own x)) [
    | inl is ↦ rw is tt
    | inr not ↦ rw not one
  ]
  OfComing-next own (turns moved) [] one = tt
  OfComing-next own (turns moved) (y ∷ ys) one = elim (cases_Bool (stops y)) [
    | inl is ↦ rw is tt
    | inr not ↦ rw not tt
  ]
  OfComing-next own (stopped moved y) rows one = tt

  pub Each-reached : (e : CarryState X) (pieces : Pieces X) → OfComing P e → Each P pieces → Each P (reached key stops e pieces)
  Each-reached e (last rows) one all = All-after (any_row key stops) e rows one all
  Each-reached e (below rows bound pieces) one all =
      (All-after (is_below key stops bound) e rows one all.0, Each-reached (next key stops (is_below key stops bound) e rows) pieces (OfComing-next (is_below key stops bound) e rows one) all.1)

module _ {X : Type 0} (key key' : X → ℕ) (stops stops' : X → Bool) where
  -- they agree on a row
  pub record Agrees (x : X) : Type 0 where
    pub keys : key x ≡ key' x
    pub ends : stops x ≡ stops' x

  after-agree : (own own' : X → Bool) (e : CarryState X) (rows : List X) → OfComing (λ x. own x ≡ own' x) e → All Agrees rows → after_event key stops own e rows ≡ after_event key' stops' own' e rows
  after-agree own own' (comes x) rows same all = rw same refl
  after-agree own own' (turns moved) [] same all = refl
  after-agree own own' (turns moved) (y ∷ ys) same all = rw (All-head Agrees y ys all).ends refl
  after-agree own own' (stopped moved y) rows same all = refl

  next-agree : (own own' : X → Bool) (e : CarryState X) (rows : List X) → OfComing (λ x. own x ≡ own' x) e → All Agrees rows → next key stops own e rows ≡ next key' stops' own' e rows
  next-agree own own' (comes x) rows same all = rw same refl
  next-agree own own' (turns moved) [] same all = refl
  next-agree own own' (turns moved) (y ∷ ys) same all = rw (All-head Agrees y ys all).ends refl
  next-agree own own' (stopped moved y) rows same all = refl

  any_same : (e : CarryState X) → OfComing (λ (x : X). any_row key stops x ≡ any_row key' stops' x) e
  any_same (comes x) = refl
  any_same (turns moved) = tt
  any_same (stopped moved y) = tt

  below_same : (bound : ℕ) (e : CarryState X) → OfComing Agrees e → OfComing (λ x. ltb (key x) bound ≡ ltb (key' x) bound) e
  below_same bound (comes x) one = rw one.keys refl
  below_same bound (turns moved) one = tt
  below_same bound (stopped moved y) one = tt

  pub reached-agree : (e : CarryState X) (pieces : Pieces X) → OfComing Agrees e → Each Agrees pieces → reached key stops e pieces ≡ reached key' stops' e pieces
  reached-agree e (last rows) one all = ap last (after-agree (any_row key stops) (any_row key' stops') e rows (any_same e) all)
  reached-agree e (below rows bound pieces) one all =
      let same = below_same bound.0 e one in
      let on : CarryState X = next key stops (is_below key stops bound) e rows in
      let rest = reached-agree on pieces (OfComing-next key stops Agrees (is_below key stops bound) e rows one) all.1 in
      let on_same : on ≡ next key' stops' (is_below key' stops' bound) e rows = next-agree (is_below key stops bound) (is_below key' stops' bound) e rows same all.0 in
      rw (rest, after-agree (is_below key stops bound) (is_below key' stops' bound) e rows same all.0, on_same) refl

  pub outcome-agree : (e : CarryState X) (pieces : Pieces X) → OfComing Agrees e → Each Agrees pieces → outcome key stops e pieces ≡ outcome key' stops' e pieces
  outcome-agree e (last rows) one all = next-agree (any_row key stops) (any_row key' stops') e rows (any_same e) all
  outcome-agree e (below rows bound pieces) one all =
      let same = below_same bound.0 e one in
      let on : CarryState X = next key stops (is_below key stops bound) e rows in
      let rest = outcome-agree on pieces (OfComing-next key stops Agrees (is_below key stops bound) e rows one) all.1 in
      let on_same : on ≡ next key' stops' (is_below key' stops' bound) e rows = next-agree (is_below key stops bound) (is_below key' stops' bound) e rows same all.0 in
      rest ∙ ap (λ f. outcome key' stops' f pieces) on_same

  pub one_at_a_time-agree : (es : List (CarryState X)) (pieces : Pieces X) → All (OfComing Agrees) es → Each Agrees pieces → one_at_a_time key stops es pieces ≡ one_at_a_time key' stops' es pieces
  one_at_a_time-agree [] pieces all each = refl
  one_at_a_time-agree (e ∷ es) pieces all each =
      let first = All-head (OfComing Agrees) e es all in
      one_at_a_time-agree es (reached key stops e pieces) (All-tail (OfComing Agrees) e es all) (Each-reached key stops Agrees e pieces first each) ∙ ap (one_at_a_time key' stops' es) (reached-agree e pieces first each)

  pub outcomes-agree : (es : List (CarryState X)) (pieces : Pieces X) → All (OfComing Agrees) es → Each Agrees pieces → outcomes key stops es pieces ≡ outcomes key' stops' es pieces
  outcomes-agree [] pieces all each = refl
  outcomes-agree (e ∷ es) pieces all each =
      let first = All-head (OfComing Agrees) e es all in
      let rest = outcomes-agree es (reached key stops e pieces) (All-tail (OfComing Agrees) e es all) (Each-reached key stops Agrees e pieces first each) in
      rw (rest, reached-agree e pieces first each, outcome-agree e pieces first each) refl

-- the row in hand at the end of a carry has the property
abbrev pub OfEnd : {X : Type 0} → (X → Type 0) → CarryState X → Type 0
OfEnd P (comes x) = Unit {0}
OfEnd P (turns moved) = Unit {0}
OfEnd P (stopped moved y) = P y

module _ {X : Type 0} (key : X → ℕ) (stops : X → Bool) where
  abbrev Stops : X → Type 0
  Stops x = stops x ≡ true

  next-ends : (own : X → Bool) (e : CarryState X) (rows : List X) → OfEnd Stops e → OfEnd Stops (next key stops own e rows)
  next-ends own (comes x) rows one = elim (cases_Bool (own x)) [
    | inl is ↦ rw is tt
    | inr not ↦ rw not tt
  ]
  next-ends own (turns moved) [] one = tt
  next-ends own (turns moved) (y ∷ ys) one = elim (cases_Bool (stops y)) [
    | inl is ↦ rw is is
    | inr not ↦ rw not tt
  ]
  next-ends own (stopped moved y) rows one = one

  -- a carry that has ended with a row in hand has ended with a row that ends carries
  pub outcome-ends : (e : CarryState X) (pieces : Pieces X) → OfEnd Stops e → OfEnd Stops (outcome key stops e pieces)
  outcome-ends e (last rows) one = next-ends (any_row key stops) e rows one
  outcome-ends e (below rows bound pieces) one =
      outcome-ends (next key stops (is_below key stops bound) e rows) pieces (next-ends (is_below key stops bound) e rows one)
