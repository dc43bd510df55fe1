-- One pass over what follows a piece has the result of the rows that reach it, one after the other.
use Rattle.std.proofs.Common.{◌≡◌, ℕ, ◌<◌, ◌≤◌, Bool, false, cond, List, [], ◌∷◌, ◌++◌, refl, sym, ap, ◌∙◌, inl, inr}
use Rattle.std.specs.List.{All}
use Rattle.std.proofs.lemmas.Bool.{cases_lt, cases_Bool, lt-ltb, le-ltb}
use Rattle.std.proofs.lemmas.List.{append-nil, append_assoc}
use Rattle.std.proofs.lemmas.List.Elements.{All-nil, All-head, All-tail, All-push}
use Rattle.crack_column.specs.Sifts.{turned_once}
use Rattle.crack_state.proofs.Placed.{turners, met_by, survivors, placed, front, behind_front, pass_over}

module _ {X : Type 0} (key : X → ℕ) (stops : X → Bool) where
  abbrev Goes : X → Type 0
  Goes x = stops x ≡ false

  pub placed-nil : (xs : List X) → placed key stops xs [] ≡ []
  placed-nil [] = refl
  placed-nil (x ∷ xs) = refl

  pub placed-push : (xs rows : List X) (x : X) → Goes x → placed key stops xs (rows ++ x ∷ []) ≡ placed key stops xs rows ++ x ∷ []
  placed-push [] rows x goes = refl
  placed-push (w ∷ ws) [] x goes = rw (goes, placed-nil ws) refl
  placed-push (w ∷ ws) (y ∷ ys) x goes = ap (λ zs. cond (stops y) w y ∷ zs) (placed-push ws ys x goes)

  -- rows of lower pieces at the front are there, whatever is after them
  pub front-lower : (low : ℕ) (lower rows : List X) → All (λ x. key x < low) lower → (front key stops low (lower ++ rows) ≡ lower ++ front key stops low rows) × (behind_front key stops low (lower ++ rows) ≡ behind_front key stops low rows)
  front-lower low [] rows all = (refl, refl)
  front-lower low (x ∷ xs) rows all =
      let rest = front-lower low xs rows (All-tail (λ y. key y < low) x xs all) in
      let under = lt-ltb (key x) low (All-head (λ y. key y < low) x xs all) in
      (rw under (ap (λ ys. x ∷ ys) rest.0), rw under rest.1)

  pub front-own : (low : ℕ) (y : X) (rows : List X) → low ≤ key y → (front key stops low (y ∷ rows) ≡ []) × (behind_front key stops low (y ∷ rows) ≡ y ∷ rows)
  front-own low y rows over = (rw (le-ltb (key y) low over) refl, rw (le-ltb (key y) low over) refl)

  pub met-own : (low : ℕ) (x : X) (xs rows : List X) → low ≤ key x → met_by key stops low (x ∷ xs) rows ≡ met_by key stops low xs (rows ++ x ∷ [])
  met-own low x xs [] over = rw (le-ltb (key x) low over) refl
  met-own low x xs (y ∷ ys) over = rw (le-ltb (key x) low over) refl

  pub survivors-own : (low : ℕ) (x : X) (xs rows : List X) → low ≤ key x → survivors key stops low (x ∷ xs) rows ≡ x ∷ survivors key stops low xs (rows ++ x ∷ [])
  survivors-own low x xs [] over = rw (le-ltb (key x) low over) refl
  survivors-own low x xs (y ∷ ys) over = rw (le-ltb (key x) low over) refl

  pub turners-own : (low : ℕ) (x : X) (xs : List X) → low ≤ key x → turners key stops low (x ∷ xs) ≡ turners key stops low xs
  turners-own low x xs over = rw (le-ltb (key x) low over) refl

  pub turners-turn : (low : ℕ) (x : X) (xs : List X) → key x < low → turners key stops low (x ∷ xs) ≡ x ∷ turners key stops low xs
  turners-turn low x xs under = rw (lt-ltb (key x) low under) refl

  pub pass-own : (low : ℕ) (x : X) (xs before rows : List X) → low ≤ key x → pass_over key stops low (x ∷ xs) before rows ≡ pass_over key stops low xs before (rows ++ x ∷ [])
  pass-own low x xs before rows over = ap (λ b. cond b (pass_over key stops low xs (before ++ (front key stops low rows ++ x ∷ [])) (turned_once (behind_front key stops low rows))) (pass_over key stops low xs before (rows ++ x ∷ []))) (le-ltb (key x) low over)

  pub pass-turn : (low : ℕ) (x : X) (xs before rows : List X) → key x < low → pass_over key stops low (x ∷ xs) before rows ≡ pass_over key stops low xs (before ++ (front key stops low rows ++ x ∷ [])) (turned_once (behind_front key stops low rows))
  pass-turn low x xs before rows under = ap (λ b. cond b (pass_over key stops low xs (before ++ (front key stops low rows ++ x ∷ [])) (turned_once (behind_front key stops low rows))) (pass_over key stops low xs before (rows ++ x ∷ []))) (lt-ltb (key x) low under)

  -- rows one after another
  joined : (before lower ts : List X) (x : X) → (before ++ (lower ++ x ∷ [])) ++ ts ≡ (before ++ lower) ++ x ∷ ts
  joined before lower ts x = append_assoc before (lower ++ x ∷ []) ts ∙ ap (λ zs. before ++ zs) (append_assoc lower (x ∷ []) ts) ∙ sym (append_assoc before lower (x ∷ ts))

  -- the pass is right for the rows that come after the first
  abbrev IsRight : ℕ → List X → Type 0
  IsRight low xs = (rows before lower : List X) → All (λ y. low ≤ key y) rows → All (λ x. key x < low) lower → pass_over key stops low (survivors key stops low xs rows) before (lower ++ placed key stops (turners key stops low xs) rows) ≡ ((before ++ lower) ++ turners key stops low xs, met_by key stops low xs rows)

  turning : (low : ℕ) (x : X) (xs rows before lower : List X) → key x < low → All (λ y. low ≤ key y) rows → All (λ x. key x < low) lower → IsRight low xs → pass_over key stops low (survivors key stops low (x ∷ xs) rows) before (lower ++ placed key stops (turners key stops low (x ∷ xs)) rows) ≡ ((before ++ lower) ++ turners key stops low (x ∷ xs), met_by key stops low (x ∷ xs) rows)
  turning low x xs [] before lower under own fronts rest =
      let ts : List X = turners key stops low xs in
      let sv : List X = survivors key stops low xs [] in
      let met : List X = met_by key stops low xs [] in
      let now : List X = before ++ (lower ++ x ∷ []) in
      let split = front-lower low lower [] fronts in
      let right = rw (placed-nil ts, append-nil now) at (rest [] now [] (All-nil (λ y. low ≤ key y)) (All-nil (λ z. key z < low))) in
      let survive : survivors key stops low (x ∷ xs) [] ≡ x ∷ sv = rw (lt-ltb (key x) low under) refl in
      let leave : met_by key stops low (x ∷ xs) [] ≡ met = rw (lt-ltb (key x) low under) refl in
      rw (survive, turners-turn low x xs under, leave, ← (joined before lower ts x)) (pass-turn low x sv before (lower ++ []) under ∙ rw (split.0, split.1, append-nil lower) right)
  turning low x xs (y ∷ ys) before lower under own fronts rest =
      let ts : List X = turners key stops low xs in
      let own_rest = All-tail (λ z. low ≤ key z) y ys own in
      elim (cases_Bool (stops y)) [
        | inl stop ↦
            let right = rest ys before (lower ++ x ∷ []) own_rest (All-push (λ z. key z < low) lower x fronts under) in
            let survive : survivors key stops low (x ∷ xs) (y ∷ ys) ≡ survivors key stops low xs ys = rw (lt-ltb (key x) low under, stop) refl in
            let leave : met_by key stops low (x ∷ xs) (y ∷ ys) ≡ met_by key stops low xs ys = rw (lt-ltb (key x) low under, stop) refl in
            let place : placed key stops (x ∷ ts) (y ∷ ys) ≡ x ∷ placed key stops ts ys = rw stop refl in
            rw (survive, turners-turn low x xs under, leave, place, ← (joined before lower ts x)) (rw (append_assoc lower (x ∷ []) (placed key stops ts ys)) at right)
        | inr goes ↦
            let over = All-head (λ z. low ≤ key z) y ys own in
            let sv : List X = survivors key stops low xs (ys ++ y ∷ []) in
            let now : List X = before ++ (lower ++ x ∷ []) in
            let standing : List X = placed key stops ts ys in
            let right = rw (append-nil now, placed-push ts ys y goes) at (rest (ys ++ y ∷ []) now [] (All-push (λ z. low ≤ key z) ys y own_rest over) (All-nil (λ z. key z < low))) in
            let split = front-lower low lower (y ∷ standing) fronts in
            let first = front-own low y standing over in
            let survive : survivors key stops low (x ∷ xs) (y ∷ ys) ≡ x ∷ sv = rw (lt-ltb (key x) low under, goes) refl in
            let leave : met_by key stops low (x ∷ xs) (y ∷ ys) ≡ met_by key stops low xs (ys ++ y ∷ []) = rw (lt-ltb (key x) low under, goes) refl in
            let place : placed key stops (x ∷ ts) (y ∷ ys) ≡ y ∷ standing = rw goes refl in
            rw (survive, turners-turn low x xs under, leave, place, ← (joined before lower ts x)) (pass-turn low x sv before (lower ++ y ∷ standing) under ∙ rw (split.0, split.1) (rw (first.0, first.1, append-nil lower) right))
      ]

  -- the result of a pass, if this many rows of lower pieces are before the piece, and more of them at its front
  pub pass_over-placed : (low : ℕ) (xs rows before lower : List X) → All Goes xs → All (λ y. low ≤ key y) rows → All (λ x. key x < low) lower → pass_over key stops low (survivors key stops low xs rows) before (lower ++ placed key stops (turners key stops low xs) rows) ≡ ((before ++ lower) ++ turners key stops low xs, met_by key stops low xs rows)
  pass_over-placed low [] [] before lower coming own fronts =
      let split = front-lower low lower [] fronts in
      rw (split.0, split.1, append-nil lower, append-nil (before ++ lower)) refl
  pass_over-placed low [] (y ∷ ys) before lower coming own fronts =
      let split = front-lower low lower (y ∷ ys) fronts in
      let first = front-own low y ys (All-head (λ z. low ≤ key z) y ys own) in
      rw (split.0, split.1) (rw (first.0, first.1, append-nil lower, append-nil (before ++ lower)) refl)
  pass_over-placed low (x ∷ xs) rows before lower coming own fronts = elim (cases_lt (key x) low) [
    | inr over ↦
        let rest = pass_over-placed low xs (rows ++ x ∷ []) before lower (All-tail Goes x xs coming) (All-push (λ y. low ≤ key y) rows x own over) fronts in
        let ts : List X = turners key stops low xs in
        let same : (lower ++ placed key stops ts rows) ++ x ∷ [] ≡ lower ++ placed key stops ts (rows ++ x ∷ []) = append_assoc lower (placed key stops ts rows) (x ∷ []) ∙ ap (λ zs. lower ++ zs) (sym (placed-push ts rows x (All-head Goes x xs coming))) in
        rw (survivors-own low x xs rows over, turners-own low x xs over, met-own low x xs rows over) (pass-own low x (survivors key stops low xs (rows ++ x ∷ [])) before (lower ++ placed key stops ts rows) over ∙ ap (pass_over key stops low (survivors key stops low xs (rows ++ x ∷ [])) before) same ∙ rest)
    | inl under ↦ turning low x xs rows before lower under own fronts (λ ys b l o f. pass_over-placed low xs ys b l (All-tail Goes x xs coming) o f)
  ]
