-- If no carry ends with a row in hand, sifting has the result of the carries.
use Rattle.std.proofs.Common.{◌≡◌, ℕ, ◌+◌, ◌<◌, ◌≤◌, Bool, true, false, cond, ltb, zero, suc, List, [], ◌∷◌, ◌++◌, take, map, length, refl, sym, ap, ◌∙◌, inl, inr, arith}
use Rattle.std.specs.List.{All, filter, sum_by}
use Rattle.std.proofs.lemmas.Bool.{cases_lt, cases_Bool, lt-ltb, le-ltb, ltb-true, ltb-false, true≢false}
use Rattle.std.proofs.lemmas.List.{length_push}
use Rattle.std.proofs.lemmas.List.Elements.{All-nil, All-cons, All-head, All-tail, All-take}
use Rattle.std.proofs.lemmas.List.Sums.{sum_by-cons}
use Rattle.crack_row.specs.declared.InnerBound.{InnerBound}
use Rattle.crack_state.specs.Pieces.{Pieces, last, below, marks_of}
use Rattle.crack_state.proofs.Divided.{AreDivided}
use Rattle.crack_state.specs.Queues.{CarryState, comes, turns, stopped, is_below, any_row, left_after, passed, in_bulk, bulk_outcomes}
use Rattle.crack_column.specs.Sifts.{turned_once, one_if_some, below_bound, queued, made_way}
use Rattle.crack_state.proofs.Sifts.{sifted, all_made_way, count_below, OfMet, risen}

-- one more after them
All-take_push : {X : Type 0} (P : X → Type 0) (n : ℕ) (xs : List X) (x : X) → All P (take n xs) → P x → All P (take n (xs ++ x ∷ []))
All-take_push P zero xs x all one = All-nil P
All-take_push P (suc n) [] x all one = All-take P (suc n) (x ∷ []) (All-cons P x [] one (All-nil P))
All-take_push P (suc n) (y ∷ ys) x all one = All-cons P y (take n (ys ++ x ∷ [])) (All-head P y (take n ys) all) (All-take_push P n ys x (All-tail P y (take n ys) all) one)

-- how many rows moved before an event
abbrev pub moved_of : {X : Type 0} → CarryState X → ℕ
moved_of (comes x) = 0
moved_of (turns moved) = moved
moved_of (stopped moved y) = moved

-- no event has ended below
abbrev pub IsTurn : {X : Type 0} → CarryState X → Type 0
IsTurn (comes x) = ⊥
IsTurn (turns moved) = Unit {0}
IsTurn (stopped moved y) = ⊥

module _ {X : Type 0} (key : X → ℕ) (stops : X → Bool) where
  abbrev Goes : X → Type 0
  Goes x = stops x ≡ false

  -- the event of a row that comes in, when it reaches a piece that begins at this bound
  abbrev IsOf : ℕ → X → CarryState X → Type 0
  IsOf low x (comes y) = (y ≡ x) × (low ≤ key x)
  IsOf low x (turns moved) = key x < low
  IsOf low x (stopped moved y) = ⊥

  -- the events are those of the rows
  abbrev pub AreOf : ℕ → List X → List (CarryState X) → Type 0
  AreOf low [] [] = Unit {0}
  AreOf low [] (e ∷ es) = ⊥
  AreOf low (x ∷ xs) [] = ⊥
  AreOf low (x ∷ xs) (e ∷ es) = IsOf low x e × AreOf low xs es

  -- the event of a row that comes in, when it has left a piece, whose own rows and those of lower ones pass this test
  abbrev IsNext : (X → Bool) → X → CarryState X → Type 0
  IsNext own x (comes y) = (y ≡ x) × (own x ≡ false)
  IsNext own x (turns moved) = own x ≡ true
  IsNext own x (stopped moved y) = ⊥

  abbrev AreNext : (X → Bool) → List X → List (CarryState X) → Type 0
  AreNext own [] [] = Unit {0}
  AreNext own [] (e ∷ es) = ⊥
  AreNext own (x ∷ xs) [] = ⊥
  AreNext own (x ∷ xs) (e ∷ es) = IsNext own x e × AreNext own xs es

  total : List (CarryState X) → ℕ
  total es = sum_by moved_of es

  -- a piece after the events, how many of its rows move, and which events go on
  record Through (low : ℕ) (own : X → Bool) (xs : List X) (es : List (CarryState X)) (rows : List X) : Type 0 where
    left_is : left_after key stops own es rows ≡ queued key low (filter own xs) rows
    total_is : sum_by moved_of (passed key stops own es rows) ≡ sum_by moved_of es + made_way key low (filter own xs) rows
    next_are : AreNext own xs (passed key stops own es rows)

  pub below_count : (low : ℕ) (x : X) (xs : List X) → key x < low → count_below key low (x ∷ xs) ≡ suc (count_below key low xs)
  below_count low x xs under = sum_by-cons (λ y. cond {A = ℕ} (ltb (key y) low) 1 0) x xs ∙ rw (lt-ltb (key x) low under) (omega arith)

  pub above_count : (low : ℕ) (x : X) (xs : List X) → low ≤ key x → count_below key low (x ∷ xs) ≡ count_below key low xs
  above_count low x xs over = sum_by-cons (λ y. cond {A = ℕ} (ltb (key y) low) 1 0) x xs ∙ rw (le-ltb (key x) low over) (omega arith)

  queued-own : (low : ℕ) (x : X) (xs rows : List X) → low ≤ key x → queued key low (x ∷ xs) rows ≡ queued key low xs (rows ++ x ∷ [])
  queued-own low x xs rows over = ap (λ b. queued key low xs (cond b (turned_once rows) (rows ++ x ∷ []))) (le-ltb (key x) low over)

  queued-turn : (low : ℕ) (x : X) (xs rows : List X) → key x < low → queued key low (x ∷ xs) rows ≡ queued key low xs (turned_once rows)
  queued-turn low x xs rows under = ap (λ b. queued key low xs (cond b (turned_once rows) (rows ++ x ∷ []))) (lt-ltb (key x) low under)

  made_way-own : (low : ℕ) (x : X) (xs rows : List X) → low ≤ key x → made_way key low (x ∷ xs) rows ≡ made_way key low xs (rows ++ x ∷ [])
  made_way-own low x xs rows over = ap (λ b. cond b (one_if_some rows + made_way key low xs (turned_once rows)) (made_way key low xs (rows ++ x ∷ []))) (le-ltb (key x) low over)

  made_way-turn : (low : ℕ) (x : X) (xs rows : List X) → key x < low → made_way key low (x ∷ xs) rows ≡ one_if_some rows + made_way key low xs (turned_once rows)
  made_way-turn low x xs rows under = ap (λ b. cond b (one_if_some rows + made_way key low xs (turned_once rows)) (made_way key low xs (rows ++ x ∷ []))) (lt-ltb (key x) low under)

  through : (low : ℕ) (own : X → Bool) → ((x : X) → key x < low → own x ≡ true) → (xs : List X) (es : List (CarryState X)) (rows : List X) → AreOf low xs es → All Goes xs → All Goes (take (count_below key low xs) rows) → Through low own xs es rows
  through low own lower [] [] rows are coming met = record { left_is = refl; total_is = omega arith; next_are = tt }
  through low own lower [] (e ∷ es) rows are coming met = absurd are
  through low own lower (x ∷ xs) [] rows are coming met = absurd are
  through low own lower (x ∷ xs) (comes y ∷ es) rows are coming met =
      let over : low ≤ key x = are.0.1 in
      let met_on : All Goes (take (count_below key low xs) rows) = rw (above_count low x xs over) at met in
      let others = All-tail Goes x xs coming in
      elim (cases_Bool (own x)) [
        | inl is ↦
            let rest = through low own lower xs es (rows ++ x ∷ []) are.1 others (All-take_push Goes (count_below key low xs) rows x met_on (All-head Goes x xs coming)) in
            rw are.0.0 (record {
              left_is = rw is (rest.left_is ∙ sym (queued-own low x (filter own xs) rows over));
              total_is = rw is (omega (arith, rest.total_is, made_way-own low x (filter own xs) rows over, sum_by-cons moved_of (turns 0) (passed key stops own es (rows ++ x ∷ [])), sum_by-cons moved_of (comes x) es));
              next_are = rw is (is, rest.next_are);
            })
        | inr beyond ↦
            let rest = through low own lower xs es rows are.1 others met_on in
            rw are.0.0 (record {
              left_is = rw beyond rest.left_is;
              total_is = rw beyond (omega (arith, rest.total_is, sum_by-cons moved_of (comes x) (passed key stops own es rows), sum_by-cons moved_of (comes x) es));
              next_are = rw beyond ((refl, beyond), rest.next_are);
            })
      ]
  through low own lower (x ∷ xs) (turns moved ∷ es) [] are coming met =
      let under : key x < low = are.0 in
      let is : own x ≡ true = lower x under in
      let rest = through low own lower xs es [] are.1 (All-tail Goes x xs coming) (All-take Goes (count_below key low xs) [] (All-nil Goes)) in
      record {
        left_is = rw is (rest.left_is ∙ sym (queued-turn low x (filter own xs) [] under));
        total_is = rw is (omega (arith, rest.total_is, made_way-turn low x (filter own xs) [] under, sum_by-cons moved_of (turns moved) (passed key stops own es []), sum_by-cons moved_of (turns moved) es));
        next_are = (is, rest.next_are);
      }
  through low own lower (x ∷ xs) (turns moved ∷ es) (y ∷ ys) are coming met =
      let under : key x < low = are.0 in
      let is : own x ≡ true = lower x under in
      let met_all : All Goes (y ∷ take (count_below key low xs) ys) = rw (below_count low x xs under) at met in
      let goes : stops y ≡ false = All-head Goes y (take (count_below key low xs) ys) met_all in
      let met_on : All Goes (take (count_below key low xs) (ys ++ y ∷ [])) = All-take_push Goes (count_below key low xs) ys y (All-tail Goes y (take (count_below key low xs) ys) met_all) goes in
      let rest = through low own lower xs es (ys ++ y ∷ []) are.1 (All-tail Goes x xs coming) met_on in
      record {
        left_is = rw (goes, is) (rest.left_is ∙ sym (queued-turn low x (filter own xs) (y ∷ ys) under));
        total_is = rw (goes, is) (omega (arith, rest.total_is, made_way-turn low x (filter own xs) (y ∷ ys) under, sum_by-cons moved_of (turns (suc moved)) (passed key stops own es (ys ++ y ∷ [])), sum_by-cons moved_of (turns moved) es));
        next_are = rw goes (is, rest.next_are);
      }
  through low own lower (x ∷ xs) (stopped moved y ∷ es) rows are coming met = absurd are.0

  of_next : (bound : InnerBound) (xs : List X) (es : List (CarryState X)) → AreNext (is_below key stops bound) xs es → AreOf bound.0 xs es
  of_next bound [] [] are = tt
  of_next bound [] (e ∷ es) are = absurd are
  of_next bound (x ∷ xs) [] are = absurd are
  of_next bound (x ∷ xs) (comes y ∷ es) are = ((are.0.0, ltb-false (key x) bound.0 are.0.1), of_next bound xs es are.1)
  of_next bound (x ∷ xs) (turns moved ∷ es) are = (ltb-true (key x) bound.0 are.0, of_next bound xs es are.1)
  of_next bound (x ∷ xs) (stopped moved y ∷ es) are = absurd are.0

  all_turn : (xs : List X) (es : List (CarryState X)) → AreNext (any_row key stops) xs es → All IsTurn es
  all_turn [] [] are = All-nil IsTurn
  all_turn [] (e ∷ es) are = absurd are
  all_turn (x ∷ xs) [] are = absurd are
  all_turn (x ∷ xs) (comes y ∷ es) are = absurd (true≢false are.0.1)
  all_turn (x ∷ xs) (turns moved ∷ es) are = All-cons IsTurn (turns moved) es tt (all_turn xs es are.1)
  all_turn (x ∷ xs) (stopped moved y ∷ es) are = absurd are.0

  any_kept : (xs : List X) → filter (any_row key stops) xs ≡ xs
  any_kept [] = refl
  any_kept (x ∷ xs) = ap (λ ys. x ∷ ys) (any_kept xs)

  -- all pieces after the events of rows that come in, how many rows move, and how the events end
  pub record AreSifted (low : ℕ) (xs : List X) (es : List (CarryState X)) (pieces : Pieces X) : Type 0 where
    pub pieces_are : in_bulk key stops es pieces ≡ sifted key low xs pieces
    pub total_is : sum_by moved_of (bulk_outcomes key stops es pieces) ≡ sum_by moved_of es + all_made_way key low xs pieces
    pub turn : All IsTurn (bulk_outcomes key stops es pieces)

  pub AreSifted-of : (low : ℕ) (xs : List X) (es : List (CarryState X)) (pieces : Pieces X) → AreDivided key low pieces → AreOf low xs es → All Goes xs → OfMet key Goes low xs pieces → AreSifted low xs es pieces
  AreSifted-of low xs es (last rows) divided are coming met =
      let one = through low (any_row key stops) (λ x under. refl) xs es rows are coming met in
      let all = any_kept xs in
      record {
        pieces_are = ap last (one.left_is ∙ ap (λ ys. queued key low ys rows) all);
        total_is = one.total_is ∙ ap (λ ys. sum_by moved_of es + made_way key low ys rows) all;
        turn = all_turn xs (passed key stops (any_row key stops) es rows) one.next_are;
      }
  AreSifted-of low xs es (below rows bound pieces) divided are coming met =
      let own = is_below key stops bound in
      let one = through low own (λ x under. lt-ltb (key x) bound.0 (omega (arith, under, divided.1))) xs es rows are coming met.0 in
      let rest = AreSifted-of bound.0 xs (passed key stops own es rows) pieces divided.2 (of_next bound xs (passed key stops own es rows) one.next_are) coming met.1 in
      record {
        pieces_are = rw (one.left_is, rest.pieces_are) refl;
        total_is = omega (arith, rest.total_is, one.total_is);
        turn = rest.turn;
      }

  pub AreOf-coming : (xs : List X) → AreOf 0 xs (map comes xs)
  AreOf-coming [] = tt
  AreOf-coming (x ∷ xs) = ((refl, omega arith), AreOf-coming xs)

  pub none-moved : (xs : List X) → sum_by moved_of (map comes xs) ≡ 0
  none-moved [] = refl
  none-moved (x ∷ xs) = omega (arith, none-moved xs, sum_by-cons moved_of (comes x) (map comes xs))

  -- each row of a piece is replaced by one, and the rows of the piece itself are added to it
  length-turned : (rows : List X) → length (turned_once rows) ≡ length rows
  length-turned [] = refl
  length-turned (y ∷ ys) = omega (arith, length_push ys y)

  pub length-queued : (low : ℕ) (xs rows : List X) → length (queued key low xs rows) + count_below key low xs ≡ length rows + length xs
  length-queued low [] rows = omega arith
  length-queued low (x ∷ xs) rows = elim (cases_lt (key x) low) [
    | inl under ↦ omega (arith, ap length (queued-turn low x xs rows under), length-queued low xs (turned_once rows), length-turned rows, below_count low x xs under)
    | inr over ↦ omega (arith, ap length (queued-own low x xs rows over), length-queued low xs (rows ++ x ∷ []), length_push rows x, above_count low x xs over)
  ]

  -- of the rows below a bound as many are below a lower one as of all
  pub count-below_bound : (low bound : ℕ) (xs : List X) → low ≤ bound → (count_below key low (below_bound key bound xs) ≡ count_below key low xs) × (length (below_bound key bound xs) ≡ count_below key bound xs)
  count-below_bound low bound [] order = (refl, refl)
  count-below_bound low bound (x ∷ xs) order =
      let rest = count-below_bound low bound xs order in
      elim (cases_lt (key x) bound) [
        | inl under ↦
            let kept : below_bound key bound (x ∷ xs) ≡ x ∷ below_bound key bound xs = rw (lt-ltb (key x) bound under) refl in (
              elim (cases_lt (key x) low) [
                | inl lower ↦ omega (arith, ap (count_below key low) kept, below_count low x (below_bound key bound xs) lower, below_count low x xs lower, rest.0)
                | inr higher ↦ omega (arith, ap (count_below key low) kept, above_count low x (below_bound key bound xs) higher, above_count low x xs higher, rest.0)
              ],
              omega (arith, ap length kept, below_count bound x xs under, rest.1),
            )
        | inr over ↦
            let left_out : below_bound key bound (x ∷ xs) ≡ below_bound key bound xs = rw (le-ltb (key x) bound over) refl in
            (omega (arith, ap (count_below key low) left_out, above_count low x xs (omega (arith, over, order)), rest.0), omega (arith, ap length left_out, above_count bound x xs over, rest.1))
      ]

  pub marks_of-sifted : (low place : ℕ) (xs : List X) (pieces : Pieces X) → AreDivided key low pieces → marks_of (place + count_below key low xs) (sifted key low xs pieces) ≡ map (risen key xs) (marks_of place pieces)
  marks_of-sifted low place xs (last rows) divided = refl
  marks_of-sifted low place xs (below rows bound pieces) divided =
      let counted = count-below_bound low bound.0 xs divided.1 in
      let size : (place + count_below key low xs) + length (queued key low (below_bound key bound.0 xs) rows) ≡ (place + length rows) + count_below key bound.0 xs = omega (arith, length-queued low (below_bound key bound.0 xs) rows, counted.0, counted.1) in
      rw (size, marks_of-sifted bound.0 (place + length rows) xs pieces divided.2) refl

  pub none_below : (xs : List X) → count_below key 0 xs ≡ 0
  none_below [] = refl
  none_below (x ∷ xs) = omega (arith, above_count 0 x xs (omega arith), none_below xs)
