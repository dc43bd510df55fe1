-- Passes from the highest piece down have the result of all carries, if each row with which a carry ends was replaced by the row that came in.
use Rattle.std.proofs.Common.{◌≡◌, ℕ, ◌<◌, ◌≤◌, Bool, true, false, List, [], ◌∷◌, ◌++◌, map, refl, sym, ap, ◌∙◌, inl, inr, arith}
use Rattle.std.specs.List.{All}
use Rattle.std.proofs.lemmas.Bool.{cases_Bool, lt-ltb, le-ltb, ltb-true, ltb-false}
use Rattle.std.proofs.lemmas.List.Elements.{All-nil, All-cons, All-head, All-tail, All-weaker}
use Rattle.crack_row.specs.declared.InnerBound.{InnerBound}
use Rattle.crack_state.specs.Pieces.{Pieces, last, below}
use Rattle.crack_state.proofs.Divided.{AreDivided}
use Rattle.crack_state.specs.Queues.{CarryState, comes, turns, stopped, is_below, any_row, left_after, passed, in_bulk, bulk_outcomes}
use Rattle.crack_state.proofs.Placed.{reaching, turners, met_by, survivors, placed, pass_over, going, placed_all, sifted_down}
use Rattle.crack_state.proofs.PlacedLaws.{met-own, survivors-own, pass_over-placed}

module _ {X : Type 0} (key : X → ℕ) (stops : X → Bool) where
  abbrev Goes : X → Type 0
  Goes x = stops x ≡ false

  -- the event of a row that came in, when it reaches a piece that begins at this bound
  abbrev IsOn : ℕ → X → CarryState X → Type 0
  IsOn low x (comes y) = (y ≡ x) × (low ≤ key x)
  IsOn low x (turns moved) = key x < low
  IsOn low x (stopped moved y) = key x < low

  abbrev pub AreOn : ℕ → List X → List (CarryState X) → Type 0
  AreOn low [] [] = Unit {0}
  AreOn low [] (e ∷ es) = ⊥
  AreOn low (x ∷ xs) [] = ⊥
  AreOn low (x ∷ xs) (e ∷ es) = IsOn low x e × AreOn low xs es

  -- and when it has left a piece, whose own rows and those of lower ones pass this test
  abbrev IsOut : (X → Bool) → X → CarryState X → Type 0
  IsOut own x (comes y) = (y ≡ x) × (own x ≡ false)
  IsOut own x (turns moved) = own x ≡ true
  IsOut own x (stopped moved y) = own x ≡ true

  abbrev AreOut : (X → Bool) → List X → List (CarryState X) → Type 0
  AreOut own [] [] = Unit {0}
  AreOut own [] (e ∷ es) = ⊥
  AreOut own (x ∷ xs) [] = ⊥
  AreOut own (x ∷ xs) (e ∷ es) = IsOut own x e × AreOut own xs es

  out_on : (bound : InnerBound) (xs : List X) (es : List (CarryState X)) → AreOut (is_below key stops bound) xs es → AreOn bound.0 xs es
  out_on bound [] [] are = tt
  out_on bound [] (e ∷ es) are = absurd are
  out_on bound (x ∷ xs) [] are = absurd are
  out_on bound (x ∷ xs) (comes y ∷ es) are = ((are.0.0, ltb-false (key x) bound.0 are.0.1), out_on bound xs es are.1)
  out_on bound (x ∷ xs) (turns moved ∷ es) are = (ltb-true (key x) bound.0 are.0, out_on bound xs es are.1)
  out_on bound (x ∷ xs) (stopped moved y ∷ es) are = (ltb-true (key x) bound.0 are.0, out_on bound xs es are.1)

  -- the rows of lower pieces that reach a piece are those whose carries go on
  turners-going : (low : ℕ) (own : X → Bool) (xs : List X) (es : List (CarryState X)) → AreOn low xs es → turners key stops low (reaching key stops own xs es) ≡ going key stops xs es
  turners-going low own [] [] are = refl
  turners-going low own [] (e ∷ es) are = absurd are
  turners-going low own (x ∷ xs) [] are = absurd are
  turners-going low own (x ∷ xs) (comes y ∷ es) are =
      let rest = turners-going low own xs es are.1 in
      elim (cases_Bool (own x)) [
        | inl is ↦ rw is (rw (le-ltb (key x) low are.0.1) rest)
        | inr beyond ↦ rw beyond rest
      ]
  turners-going low own (x ∷ xs) (turns moved ∷ es) are = rw (lt-ltb (key x) low are.0) (ap (λ zs. x ∷ zs) (turners-going low own xs es are.1))
  turners-going low own (x ∷ xs) (stopped moved y ∷ es) are = turners-going low own xs es are.1

  -- no row that reaches a piece ends a carry if none that comes in does
  All-reaching : (own : X → Bool) (xs : List X) (es : List (CarryState X)) → All Goes xs → All Goes (reaching key stops own xs es)
  All-reaching own [] es all = All-nil Goes
  All-reaching own (x ∷ xs) [] all = All-nil Goes
  All-reaching own (x ∷ xs) (comes y ∷ es) all =
      let rest = All-reaching own xs es (All-tail Goes x xs all) in
      elim (cases_Bool (own x)) [
        | inl is ↦ rw is (All-cons Goes x (reaching key stops own xs es) (All-head Goes x xs all) rest)
        | inr beyond ↦ rw beyond rest
      ]
  All-reaching own (x ∷ xs) (turns moved ∷ es) all = All-cons Goes x (reaching key stops own xs es) (All-head Goes x xs all) (All-reaching own xs es (All-tail Goes x xs all))
  All-reaching own (x ∷ xs) (stopped moved y ∷ es) all = All-reaching own xs es (All-tail Goes x xs all)

  -- a piece after the events, and which carries go on
  record Met (low : ℕ) (own : X → Bool) (xs : List X) (es : List (CarryState X)) (rows : List X) : Type 0 where
    left_is : left_after key stops own es rows ≡ met_by key stops low (reaching key stops own xs es) rows
    on_are : going key stops xs (passed key stops own es rows) ≡ survivors key stops low (reaching key stops own xs es) rows
    out_are : AreOut own xs (passed key stops own es rows)

  met : (low : ℕ) (own : X → Bool) → ((x : X) → key x < low → own x ≡ true) → (xs : List X) (es : List (CarryState X)) (rows : List X) → AreOn low xs es → Met low own xs es rows
  met low own lower [] [] rows are = record { left_is = refl; on_are = refl; out_are = tt }
  met low own lower [] (e ∷ es) rows are = absurd are
  met low own lower (x ∷ xs) [] rows are = absurd are
  met low own lower (x ∷ xs) (comes y ∷ es) rows are = elim (cases_Bool (own x)) [
    | inl is ↦
        let rest = met low own lower xs es (rows ++ x ∷ []) are.1 in
        let on : List X = reaching key stops own xs es in
        rw are.0.0 (record {
          left_is = rw is (rest.left_is ∙ sym (met-own key stops low x on rows are.0.1));
          on_are = rw is (ap (λ zs. x ∷ zs) rest.on_are ∙ sym (survivors-own key stops low x on rows are.0.1));
          out_are = rw is (is, rest.out_are);
        })
    | inr beyond ↦
        let rest = met low own lower xs es rows are.1 in
        rw are.0.0 (record {
          left_is = rw beyond rest.left_is;
          on_are = rw beyond rest.on_are;
          out_are = rw beyond ((refl, beyond), rest.out_are);
        })
  ]
  met low own lower (x ∷ xs) (turns moved ∷ es) [] are =
      let rest = met low own lower xs es [] are.1 in
      let under = lt-ltb (key x) low are.0 in
      record {
        left_is = rw under rest.left_is;
        on_are = rw under (ap (λ zs. x ∷ zs) rest.on_are);
        out_are = (lower x are.0, rest.out_are);
      }
  met low own lower (x ∷ xs) (turns moved ∷ es) (y ∷ ys) are =
      let under = lt-ltb (key x) low are.0 in
      elim (cases_Bool (stops y)) [
        | inl stop ↦
            let rest = met low own lower xs es ys are.1 in
            record {
              left_is = rw (under, stop) rest.left_is;
              on_are = rw (under, stop) rest.on_are;
              out_are = rw stop (lower x are.0, rest.out_are);
            }
        | inr goes ↦
            let rest = met low own lower xs es (ys ++ y ∷ []) are.1 in
            record {
              left_is = rw (under, goes) rest.left_is;
              on_are = rw (under, goes) (ap (λ zs. x ∷ zs) rest.on_are);
              out_are = rw goes (lower x are.0, rest.out_are);
            }
      ]
  met low own lower (x ∷ xs) (stopped moved y ∷ es) rows are =
      let rest = met low own lower xs es rows are.1 in
      record { left_is = rest.left_is; on_are = rest.on_are; out_are = (lower x are.0, rest.out_are) }

  -- one pass
  one_pass : (low : ℕ) (own : X → Bool) → ((x : X) → key x < low → own x ≡ true) → (xs : List X) (es : List (CarryState X)) (rows : List X) → AreOn low xs es → All Goes xs → All (λ x. low ≤ key x) rows → pass_over key stops low (going key stops xs (passed key stops own es rows)) [] (placed key stops (turners key stops low (reaching key stops own xs es)) rows) ≡ (going key stops xs es, left_after key stops own es rows)
  one_pass low own lower xs es rows are coming over =
      let one = met low own lower xs es rows are in
      let ws : List X = reaching key stops own xs es in
      let pass = pass_over-placed key stops low ws rows [] [] (All-reaching own xs es coming) over (All-nil (λ x. key x < low)) in
      rw (one.on_are, one.left_is, ← (turners-going low own xs es are)) pass

  pub sifted_down-placed : (low : ℕ) (xs : List X) (es : List (CarryState X)) (pieces : Pieces X) → AreDivided key low pieces → AreOn low xs es → All Goes xs → sifted_down key stops low (placed_all key stops low xs es pieces) (going key stops xs (bulk_outcomes key stops es pieces)) ≡ (going key stops xs es, in_bulk key stops es pieces)
  sifted_down-placed low xs es (last rows) divided are coming =
      rw (one_pass low (any_row key stops) (λ x under. refl) xs es rows are coming divided) refl
  sifted_down-placed low xs es (below rows bound pieces) divided are coming =
      let own = is_below key stops bound in
      let lower : (x : X) → key x < low → own x ≡ true = λ x under. lt-ltb (key x) bound.0 (omega (arith, under, divided.1)) in
      let one = met low own lower xs es rows are in
      let above = sifted_down-placed bound.0 xs (passed key stops own es rows) pieces divided.2 (out_on bound xs (passed key stops own es rows) one.out_are) coming in
      let here = one_pass low own lower xs es rows are coming (All-weaker (λ x. (low ≤ key x) × (key x < bound.0)) (λ x. low ≤ key x) (λ x h. h.0) rows divided.0) in
      rw above (rw here refl)

  AreOn-coming : (xs : List X) → AreOn 0 xs (map comes xs)
  AreOn-coming [] = tt
  AreOn-coming (x ∷ xs) = ((refl, omega arith), AreOn-coming xs)

  going-coming : (xs : List X) → going key stops xs (map comes xs) ≡ []
  going-coming [] = refl
  going-coming (x ∷ xs) = going-coming xs

  -- the rows that come in, each at the place of the row with which its carry ends, or after the last piece: the passes have the result of the carries
  pub down-in_bulk : (xs : List X) (pieces : Pieces X) → AreDivided key 0 pieces → All Goes xs → sifted_down key stops 0 (placed_all key stops 0 xs (map comes xs) pieces) (going key stops xs (bulk_outcomes key stops (map comes xs) pieces)) ≡ ([], in_bulk key stops (map comes xs) pieces)
  down-in_bulk xs pieces divided coming = rw (← (going-coming xs)) (sifted_down-placed 0 xs (map comes xs) pieces divided (AreOn-coming xs) coming)
