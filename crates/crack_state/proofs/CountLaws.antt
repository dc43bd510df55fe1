-- How many rows move, counted event by event and pass by pass.
use Rattle.std.proofs.Common.{◌≡◌, ℕ, ◌+◌, ◌<◌, ◌≤◌, Bool, true, false, cond, suc, List, [], ◌∷◌, ◌++◌, length, refl, sym, ap, ◌∙◌, inl, inr, arith}
use Rattle.std.specs.List.{All, sum_by}
use Rattle.std.proofs.lemmas.Bool.{cases_lt, cases_Bool, lt-ltb, le-ltb}
use Rattle.std.proofs.lemmas.List.{append-nil, append_assoc, length_push}
use Rattle.std.proofs.lemmas.List.Elements.{All-nil, All-head, All-tail, All-push}
use Rattle.std.proofs.lemmas.List.Sums.{sum_by-cons}
use Rattle.crack_state.specs.Queues.{CarryState, comes, turns, stopped, passed}
use Rattle.crack_column.specs.Sifts.{turned_once, one_if_some}
use Rattle.crack_state.proofs.SiftLaws.{moved_of}
use Rattle.crack_state.proofs.Placed.{reaching, turners, survivors, placed, front, behind_front, made_way_to, counted_over}
use Rattle.crack_state.proofs.PlacedLaws.{placed-nil, placed-push, front-lower, front-own, survivors-own, turners-own, turners-turn}
use Rattle.crack_state.proofs.DownLaws.{AreOn}

module _ {X : Type 0} (key : X → ℕ) (stops : X → Bool) where
  abbrev Goes : X → Type 0
  Goes x = stops x ≡ false

  way-own : (low : ℕ) (x : X) (xs rows : List X) → low ≤ key x → made_way_to key stops low (x ∷ xs) rows ≡ made_way_to key stops low xs (rows ++ x ∷ [])
  way-own low x xs [] over = rw (le-ltb (key x) low over) refl
  way-own low x xs (y ∷ ys) over = rw (le-ltb (key x) low over) refl

  counted-own : (low : ℕ) (x : X) (xs rows : List X) → low ≤ key x → counted_over key stops low (x ∷ xs) rows ≡ counted_over key stops low xs (rows ++ x ∷ [])
  counted-own low x xs rows over = ap (λ b. cond b (length (front key stops low rows) + (one_if_some (behind_front key stops low rows) + counted_over key stops low xs (turned_once (behind_front key stops low rows)))) (counted_over key stops low xs (rows ++ x ∷ []))) (le-ltb (key x) low over)

  counted-turn : (low : ℕ) (x : X) (xs rows : List X) → key x < low → counted_over key stops low (x ∷ xs) rows ≡ length (front key stops low rows) + (one_if_some (behind_front key stops low rows) + counted_over key stops low xs (turned_once (behind_front key stops low rows)))
  counted-turn low x xs rows under = ap (λ b. cond b (length (front key stops low rows) + (one_if_some (behind_front key stops low rows) + counted_over key stops low xs (turned_once (behind_front key stops low rows)))) (counted_over key stops low xs (rows ++ x ∷ []))) (lt-ltb (key x) low under)

  -- the count is right for the rows that come after the first
  abbrev IsCounted : ℕ → List X → Type 0
  IsCounted low xs = (rows lower : List X) → All (λ y. low ≤ key y) rows → All (λ x. key x < low) lower → counted_over key stops low (survivors key stops low xs rows) (lower ++ placed key stops (turners key stops low xs) rows) ≡ length lower + made_way_to key stops low xs rows

  counting : (low : ℕ) (x : X) (xs rows lower : List X) → key x < low → All (λ y. low ≤ key y) rows → All (λ x. key x < low) lower → IsCounted low xs → counted_over key stops low (survivors key stops low (x ∷ xs) rows) (lower ++ placed key stops (turners key stops low (x ∷ xs)) rows) ≡ length lower + made_way_to key stops low (x ∷ xs) rows
  counting low x xs [] lower under own fronts rest =
      let ts : List X = turners key stops low xs in
      let sv : List X = survivors key stops low xs [] in
      let split = front-lower key stops low lower [] fronts in
      let right : counted_over key stops low sv [] ≡ made_way_to key stops low xs [] = (rw (placed-nil key stops ts) at (rest [] [] (All-nil (λ y. low ≤ key y)) (All-nil (λ z. key z < low)))) ∙ omega arith in
      let survive : survivors key stops low (x ∷ xs) [] ≡ x ∷ sv = rw (lt-ltb (key x) low under) refl in
      let way : made_way_to key stops low (x ∷ xs) [] ≡ made_way_to key stops low xs [] = rw (lt-ltb (key x) low under) refl in
      let turn : counted_over key stops low (x ∷ sv) (lower ++ []) ≡ length lower + (0 + counted_over key stops low sv []) = counted-turn low x sv (lower ++ []) under ∙ rw (split.0, split.1, append-nil lower) refl in
      rw (survive, turners-turn key stops low x xs under, way) (turn ∙ omega (arith, right))
  counting low x xs (y ∷ ys) lower under own fronts rest =
      let ts : List X = turners key stops low xs in
      let own_rest = All-tail (λ z. low ≤ key z) y ys own in
      elim (cases_Bool (stops y)) [
        | inl stop ↦
            let right = rw (append_assoc lower (x ∷ []) (placed key stops ts ys)) at (rest ys (lower ++ x ∷ []) own_rest (All-push (λ z. key z < low) lower x fronts under)) in
            let survive : survivors key stops low (x ∷ xs) (y ∷ ys) ≡ survivors key stops low xs ys = rw (lt-ltb (key x) low under, stop) refl in
            let way : made_way_to key stops low (x ∷ xs) (y ∷ ys) ≡ suc (made_way_to key stops low xs ys) = rw (lt-ltb (key x) low under, stop) refl in
            let place : placed key stops (x ∷ ts) (y ∷ ys) ≡ x ∷ placed key stops ts ys = rw stop refl in
            rw (survive, turners-turn key stops low x xs under, way, place) (right ∙ omega (arith, length_push lower x))
        | inr goes ↦
            let over = All-head (λ z. low ≤ key z) y ys own in
            let sv : List X = survivors key stops low xs (ys ++ y ∷ []) in
            let standing : List X = placed key stops ts ys in
            let right : counted_over key stops low sv (standing ++ y ∷ []) ≡ made_way_to key stops low xs (ys ++ y ∷ []) = (rw (placed-push key stops ts ys y goes) at (rest (ys ++ y ∷ []) [] (All-push (λ z. low ≤ key z) ys y own_rest over) (All-nil (λ z. key z < low)))) ∙ omega arith in
            let split = front-lower key stops low lower (y ∷ standing) fronts in
            let first = front-own key stops low y standing over in
            let survive : survivors key stops low (x ∷ xs) (y ∷ ys) ≡ x ∷ sv = rw (lt-ltb (key x) low under, goes) refl in
            let way : made_way_to key stops low (x ∷ xs) (y ∷ ys) ≡ suc (made_way_to key stops low xs (ys ++ y ∷ [])) = rw (lt-ltb (key x) low under, goes) refl in
            let place : placed key stops (x ∷ ts) (y ∷ ys) ≡ y ∷ standing = rw goes refl in
            let turn : counted_over key stops low (x ∷ sv) (lower ++ y ∷ standing) ≡ length lower + (1 + counted_over key stops low sv (standing ++ y ∷ [])) = counted-turn low x sv (lower ++ y ∷ standing) under ∙ rw (split.0, split.1) (rw (first.0, first.1, append-nil lower) refl) in
            rw (survive, turners-turn key stops low x xs under, way, place) (turn ∙ omega (arith, right))
      ]

  pub counted_over-placed : (low : ℕ) (xs rows lower : List X) → All Goes xs → All (λ y. low ≤ key y) rows → All (λ x. key x < low) lower → counted_over key stops low (survivors key stops low xs rows) (lower ++ placed key stops (turners key stops low xs) rows) ≡ length lower + made_way_to key stops low xs rows
  counted_over-placed low [] [] lower coming own fronts =
      let split = front-lower key stops low lower [] fronts in
      ap length split.0 ∙ ap length (append-nil lower) ∙ omega arith
  counted_over-placed low [] (y ∷ ys) lower coming own fronts =
      let split = front-lower key stops low lower (y ∷ ys) fronts in
      let first = front-own key stops low y ys (All-head (λ z. low ≤ key z) y ys own) in
      ap length split.0 ∙ ap (λ zs. length (lower ++ zs)) first.0 ∙ ap length (append-nil lower) ∙ omega arith
  counted_over-placed low (x ∷ xs) rows lower coming own fronts = elim (cases_lt (key x) low) [
    | inr over ↦
        let rest = counted_over-placed low xs (rows ++ x ∷ []) lower (All-tail Goes x xs coming) (All-push (λ y. low ≤ key y) rows x own over) fronts in
        let ts : List X = turners key stops low xs in
        let sv : List X = survivors key stops low xs (rows ++ x ∷ []) in
        let same : (lower ++ placed key stops ts rows) ++ x ∷ [] ≡ lower ++ placed key stops ts (rows ++ x ∷ []) = append_assoc lower (placed key stops ts rows) (x ∷ []) ∙ ap (λ zs. lower ++ zs) (sym (placed-push key stops ts rows x (All-head Goes x xs coming))) in
        rw (survivors-own key stops low x xs rows over, turners-own key stops low x xs over, way-own low x xs rows over) (counted-own low x sv (lower ++ placed key stops ts rows) over ∙ ap (counted_over key stops low sv) same ∙ rest)
    | inl under ↦ counting low x xs rows lower under own fronts (λ ys l o f. counted_over-placed low xs ys l (All-tail Goes x xs coming) o f)
  ]

  -- the count of the carries when they leave a piece
  pub total-passed : (low : ℕ) (own : X → Bool) → ((x : X) → key x < low → own x ≡ true) → (xs : List X) (es : List (CarryState X)) (rows : List X) → AreOn key stops low xs es → sum_by moved_of (passed key stops own es rows) ≡ sum_by moved_of es + made_way_to key stops low (reaching key stops own xs es) rows
  total-passed low own lower [] [] rows are = omega arith
  total-passed low own lower [] (e ∷ es) rows are = absurd are
  total-passed low own lower (x ∷ xs) [] rows are = absurd are
  total-passed low own lower (x ∷ xs) (comes y ∷ es) rows are = elim (cases_Bool (own x)) [
    | inl is ↦ rw are.0.0 (rw is (omega (arith, total-passed low own lower xs es (rows ++ x ∷ []) are.1, way-own low x (reaching key stops own xs es) rows are.0.1, sum_by-cons moved_of (turns 0) (passed key stops own es (rows ++ x ∷ [])), sum_by-cons moved_of (comes x) es)))
    | inr beyond ↦ rw are.0.0 (rw beyond (omega (arith, total-passed low own lower xs es rows are.1, sum_by-cons moved_of (comes x) (passed key stops own es rows), sum_by-cons moved_of (comes x) es)))
  ]
  total-passed low own lower (x ∷ xs) (turns moved ∷ es) [] are =
      rw (lt-ltb (key x) low are.0) (omega (arith, total-passed low own lower xs es [] are.1, sum_by-cons moved_of (turns moved) (passed key stops own es []), sum_by-cons moved_of (turns moved) es))
  total-passed low own lower (x ∷ xs) (turns moved ∷ es) (y ∷ ys) are = elim (cases_Bool (stops y)) [
    | inl stop ↦ rw (lt-ltb (key x) low are.0, stop) (omega (arith, total-passed low own lower xs es ys are.1, sum_by-cons moved_of (stopped (suc moved) y) (passed key stops own es ys), sum_by-cons moved_of (turns moved) es))
    | inr goes ↦ rw (lt-ltb (key x) low are.0, goes) (omega (arith, total-passed low own lower xs es (ys ++ y ∷ []) are.1, sum_by-cons moved_of (turns (suc moved)) (passed key stops own es (ys ++ y ∷ [])), sum_by-cons moved_of (turns moved) es))
  ]
  total-passed low own lower (x ∷ xs) (stopped moved y ∷ es) rows are = omega (arith, total-passed low own lower xs es rows are.1, sum_by-cons moved_of (stopped moved y) (passed key stops own es rows), sum_by-cons moved_of (stopped moved y) es)
