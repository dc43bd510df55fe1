-- The pieces after rows come in, piece by piece from the highest down.
use Rattle.std.proofs.Common.{◌≡◌, ℕ, zero, suc, ◌+◌, ◌-◌, ◌<◌, ◌≤◌, cond, ltb, List, [], ◌∷◌, ◌++◌, length, take, drop, reverse, get_or, refl, sym, ap, ◌∙◌, inl, inr, arith}
use Rattle.std.specs.List.{All, AllPairs}
use Rattle.std.proofs.lemmas.Bool.{cases_lt, lt-ltb, le-ltb}
use Rattle.std.proofs.lemmas.List.{append-nil, append_assoc, drop-drop, drop-take, take-append-drop, reverse-append, reverse-reverse, length-append}
use Rattle.crack_column.specs.Sifts.{turned_once, one_if_some, below_bound, queued, made_way}
use Rattle.crack_index.specs.declared.mark.Mark.{Mark}
use Rattle.crack_index.specs.Marks.{InOrder}
use Rattle.crack_state.specs.Pieces.{column_of, cut}
use Rattle.crack_state.proofs.Sifts.{sifted, all_made_way}

module _ {X : Type 0} (key : X → ℕ) where
  -- with the highest mark first: the pieces of these rows after rows come in
  abbrev pub sifted_from : List Mark → List X → List X → List X
  sifted_from [] rows xs = queued key 0 xs rows
  sifted_from (m ∷ ms) rows xs = sifted_from ms (take m.position rows) (below_bound key m.bound.0 xs) ++ queued key m.bound.0 xs (drop m.position rows)

  -- and how many move
  abbrev pub made_way_from : List Mark → List X → List X → ℕ
  made_way_from [] rows xs = made_way key 0 xs rows
  made_way_from (m ∷ ms) rows xs = made_way key m.bound.0 xs (drop m.position rows) + made_way_from ms (take m.position rows) (below_bound key m.bound.0 xs)

  -- no key is below 0
  pub queued-lowest : (xs rows : List X) → queued key 0 xs rows ≡ rows ++ xs
  queued-lowest [] rows = sym (append-nil rows)
  queued-lowest (x ∷ xs) rows =
      ap (λ b. queued key 0 xs (cond b (turned_once rows) (rows ++ x ∷ []))) (le-ltb (key x) 0 (omega arith)) ∙ queued-lowest xs (rows ++ x ∷ []) ∙ append_assoc rows (x ∷ []) xs

  pub made_way-lowest : (xs rows : List X) → made_way key 0 xs rows ≡ 0
  made_way-lowest [] rows = refl
  made_way-lowest (x ∷ xs) rows =
      ap (λ b. cond b (one_if_some rows + made_way key 0 xs (turned_once rows)) (made_way key 0 xs (rows ++ x ∷ []))) (le-ltb (key x) 0 (omega arith)) ∙ made_way-lowest xs (rows ++ x ∷ [])

  -- where no row comes in
  pub sifted_from-none : (ms : List Mark) (rows : List X) → sifted_from ms rows [] ≡ rows
  sifted_from-none [] rows = refl
  sifted_from-none (m ∷ ms) rows = ap (λ ys. ys ++ drop m.position rows) (sifted_from-none ms (take m.position rows)) ∙ take-append-drop m.position rows

  pub made_way_from-none : (ms : List Mark) (rows : List X) → made_way_from ms rows [] ≡ 0
  made_way_from-none [] rows = refl
  made_way_from-none (m ∷ ms) rows = omega (arith, made_way_from-none ms (take m.position rows))

  -- a row that is below a lower bound is below a higher one
  pub below-twice : (low high : ℕ) (xs : List X) → low ≤ high → below_bound key low (below_bound key high xs) ≡ below_bound key low xs
  below-twice low high [] order = refl
  below-twice low high (x ∷ xs) order =
      let rest = below-twice low high xs order in
      elim (cases_lt (key x) high) [
        | inl under ↦
            let kept : below_bound key high (x ∷ xs) ≡ x ∷ below_bound key high xs = rw (lt-ltb (key x) high under) refl in
            ap (below_bound key low) kept ∙ ap (λ ys. cond (ltb (key x) low) (x ∷ ys) ys) rest
        | inr over ↦
            let out : below_bound key high (x ∷ xs) ≡ below_bound key high xs = rw (le-ltb (key x) high over) refl in
            let out_low : below_bound key low (x ∷ xs) ≡ below_bound key low xs = rw (le-ltb (key x) low (omega (arith, over, order))) refl in
            ap (below_bound key low) out ∙ rest ∙ sym out_low
      ]

  take_less : (i n : ℕ) (xs : List X) → i ≤ n → take i (take n xs) ≡ take i xs
  take_less zero n xs few = refl
  take_less (suc i) zero xs few = absurd (omega arith)
  take_less (suc i) (suc n) [] few = refl
  take_less (suc i) (suc n) (x ∷ xs) few = ap (λ ys. x ∷ ys) (take_less i n xs (omega arith))

  -- the marks are in order, and none is before the place
  pub record AreFrom (place : ℕ) (ms : List Mark) : Type 0 where
    pub pairs : AllPairs InOrder ms
    pub behind : All (λ m. place ≤ m.position) ms

  pub AreFrom-tail : (place : ℕ) (n : Mark) (ns : List Mark) → AreFrom place (n ∷ ns) → AreFrom n.position ns
  AreFrom-tail place n ns are = record {
    pairs = λ i j d h k. are.pairs (suc i) (suc j) d (omega arith) (omega arith);
    behind = λ k d h. (are.pairs zero (suc k) d (omega arith) (omega arith)).positions;
  }

  pub last_behind : (n m : Mark) (ns : List Mark) → AllPairs InOrder (n ∷ (ns ++ m ∷ [])) → InOrder n m
  last_behind n m ns pairs =
      let same : get_or (ns ++ m ∷ []) (length ns) m ≡ m = get_last ns in
      rw same at (pairs zero (suc (length ns)) m (omega arith) (omega (arith, length-append ns (m ∷ []))))
    where
      get_last : (ys : List Mark) → get_or (ys ++ m ∷ []) (length ys) m ≡ m
      get_last [] = refl
      get_last (y ∷ ys) = get_last ys

  -- the pieces below the highest mark, and the one above it
  sifted-snoc : (low place : ℕ) (ms : List Mark) (m : Mark) (rows xs : List X) → AreFrom place (ms ++ m ∷ []) → column_of (sifted key low xs (cut place (ms ++ m ∷ []) rows)) ≡ column_of (sifted key low (below_bound key m.bound.0 xs) (cut place ms (take (m.position - place) rows))) ++ queued key m.bound.0 xs (drop (m.position - place) rows)
  sifted-snoc low place [] m rows xs are = refl
  sifted-snoc low place (n ∷ ns) m rows xs are =
      let order = last_behind n m ns are.pairs in
      let from : place ≤ n.position = are.behind zero n (omega arith) in
      let rest = sifted-snoc n.bound.0 n.position ns m (drop (n.position - place) rows) xs (AreFrom-tail place n (ns ++ m ∷ []) are) in
      let size : m.position - place ≡ (n.position - place) + (m.position - n.position) = omega (arith, from, order.positions) in
      let first : take (n.position - place) (take (m.position - place) rows) ≡ take (n.position - place) rows = take_less (n.position - place) (m.position - place) rows (omega (arith, order.positions)) in
      let next : drop (n.position - place) (take (m.position - place) rows) ≡ take (m.position - n.position) (drop (n.position - place) rows) = ap (λ k. drop (n.position - place) (take k rows)) size ∙ drop-take (n.position - place) (m.position - n.position) rows in
      let both : (n.position - place) + (m.position - n.position) ≡ m.position - place = sym size in
      let over : drop (m.position - n.position) (drop (n.position - place) rows) ≡ drop (m.position - place) rows = drop-drop (m.position - n.position) (n.position - place) rows ∙ ap (λ k. drop k rows) both in
      let twice = below-twice n.bound.0 m.bound.0 xs (omega (arith, order.bounds)) in
      let here : List X = queued key low (below_bound key n.bound.0 xs) (take (n.position - place) rows) in
      let lower : List X = column_of (sifted key n.bound.0 (below_bound key m.bound.0 xs) (cut n.position ns (take (m.position - n.position) (drop (n.position - place) rows)))) in
      ap (λ ys. here ++ ys) rest ∙ sym (append_assoc here lower (queued key m.bound.0 xs (drop (m.position - n.position) (drop (n.position - place) rows)))) ∙ rw (twice, first, next, over) refl

  made_way-snoc : (low place : ℕ) (ms : List Mark) (m : Mark) (rows xs : List X) → AreFrom place (ms ++ m ∷ []) → all_made_way key low xs (cut place (ms ++ m ∷ []) rows) ≡ all_made_way key low (below_bound key m.bound.0 xs) (cut place ms (take (m.position - place) rows)) + made_way key m.bound.0 xs (drop (m.position - place) rows)
  made_way-snoc low place [] m rows xs are = refl
  made_way-snoc low place (n ∷ ns) m rows xs are =
      let order = last_behind n m ns are.pairs in
      let from : place ≤ n.position = are.behind zero n (omega arith) in
      let rest = made_way-snoc n.bound.0 n.position ns m (drop (n.position - place) rows) xs (AreFrom-tail place n (ns ++ m ∷ []) are) in
      let size : m.position - place ≡ (n.position - place) + (m.position - n.position) = omega (arith, from, order.positions) in
      let first : take (n.position - place) (take (m.position - place) rows) ≡ take (n.position - place) rows = take_less (n.position - place) (m.position - place) rows (omega (arith, order.positions)) in
      let next : drop (n.position - place) (take (m.position - place) rows) ≡ take (m.position - n.position) (drop (n.position - place) rows) = ap (λ k. drop (n.position - place) (take k rows)) size ∙ drop-take (n.position - place) (m.position - n.position) rows in
      let over : drop (m.position - n.position) (drop (n.position - place) rows) ≡ drop (m.position - place) rows = drop-drop (m.position - n.position) (n.position - place) rows ∙ ap (λ k. drop k rows) (sym size) in
      let twice = below-twice n.bound.0 m.bound.0 xs (omega (arith, order.bounds)) in
      rw (twice, first, next, ← over) (omega (arith, rest))

  -- from the highest mark down
  pub snoc-front : (place : ℕ) (ms : List Mark) (m : Mark) → AreFrom place (ms ++ m ∷ []) → AreFrom place ms
  snoc-front place ms m are = record {
    pairs = λ i j d h k. rw (in_front ms i d (omega (arith, h, k)), in_front ms j d k) at (are.pairs i j d h (omega (arith, k, length-append ms (m ∷ []))));
    behind = λ k d h. rw (in_front ms k d h) at (are.behind k d (omega (arith, h, length-append ms (m ∷ []))));
  }
    where
      in_front : (ns : List Mark) (k : ℕ) (d : Mark) → k < length ns → get_or (ns ++ m ∷ []) k d ≡ get_or ns k d
      in_front [] k d h = absurd (omega (arith, h))
      in_front (n ∷ ns) zero d h = refl
      in_front (n ∷ ns) (suc k) d h = in_front ns k d (omega (arith, h))

  -- the marks, of which the highest comes first, in rising order
  abbrev pub risen_order : List Mark → List Mark
  risen_order [] = []
  risen_order (m ∷ ms) = risen_order ms ++ m ∷ []

  pub sifted_from-is : (ms : List Mark) (rows xs : List X) → AreFrom 0 (risen_order ms) → sifted_from ms rows xs ≡ column_of (sifted key 0 xs (cut 0 (risen_order ms) rows))
  sifted_from-is [] rows xs are = refl
  sifted_from-is (m ∷ ms) rows xs are =
      let rest = sifted_from-is ms (take m.position rows) (below_bound key m.bound.0 xs) (snoc-front 0 (risen_order ms) m are) in
      let same : m.position - 0 ≡ m.position = omega arith in
      ap (λ ys. ys ++ queued key m.bound.0 xs (drop m.position rows)) rest ∙ sym (rw same at (sifted-snoc 0 0 (risen_order ms) m rows xs are))

  pub made_way_from-is : (ms : List Mark) (rows xs : List X) → AreFrom 0 (risen_order ms) → made_way_from ms rows xs ≡ all_made_way key 0 xs (cut 0 (risen_order ms) rows)
  made_way_from-is [] rows xs are = refl
  made_way_from-is (m ∷ ms) rows xs are =
      let rest = made_way_from-is ms (take m.position rows) (below_bound key m.bound.0 xs) (snoc-front 0 (risen_order ms) m are) in
      let same : m.position - 0 ≡ m.position = omega arith in
      let all = rw same at (made_way-snoc 0 0 (risen_order ms) m rows xs are) in
      omega (arith, rest, all)

  risen_order-reverse : (ms : List Mark) → risen_order (reverse ms) ≡ ms
  risen_order-reverse ms = twice (reverse ms) ∙ reverse-reverse ms
    where
      twice : (ns : List Mark) → risen_order ns ≡ reverse ns
      twice [] = refl
      twice (n ∷ ns) = ap (λ ys. ys ++ n ∷ []) (twice ns) ∙ sym (reverse-append (n ∷ []) ns)

  pub sifted_down-is : (ms : List Mark) (rows xs : List X) → AllPairs InOrder ms → (sifted_from (reverse ms) rows xs ≡ column_of (sifted key 0 xs (cut 0 ms rows))) × (made_way_from (reverse ms) rows xs ≡ all_made_way key 0 xs (cut 0 ms rows))
  sifted_down-is ms rows xs rising =
      let same = risen_order-reverse ms in
      let are : AreFrom 0 (risen_order (reverse ms)) = rw same (record { pairs = rising; behind = λ k d h. omega arith }) in
      (rw same at (sifted_from-is (reverse ms) rows xs are), rw same at (made_way_from-is (reverse ms) rows xs are))
