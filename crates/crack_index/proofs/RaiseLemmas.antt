-- How a walk from the highest mark down is made of walks over parts of the marks, and what it keeps.
use Rattle.std.proofs.Common.{◌≡◌, ℕ, zero, suc, ◌+◌, ◌<◌, ◌≤◌, min, List, [], ◌∷◌, ◌++◌, reverse, length, refl, ap, subst, arith}
use Rattle.std.specs.Prelude.{Option, All, AllPairs}
use Rattle.std.specs.declared.alloc.Global.{Global}
use Rattle.std.proofs.Common.{Box}
use Rattle.std.proofs.lemmas.List.{reverse-reverse, length-reverse}
use Rattle.std.proofs.lemmas.List.Elements.{All-nil, All-cons, All-head, All-tail}
use Rattle.crack_index.specs.declared.mark.Mark.{Mark}
use Rattle.crack_index.specs.Marks.{InOrder, Rising}
use Rattle.crack_index.specs.Raises.{Raises, higher}
use Rattle.crack_index.specs.Trees.{Grown, marks_in_tree}
use Rattle.crack_index.specs.Keeps.{height_of, IsBalanced}
use Rattle.crack_index.proofs.WalkLemmas.{reverse-node, AllPairs-reverse, AllPairs-cons, AllPairs-tail, IsBalanced-walked}

-- the first mark is above the second, or is where it is
abbrev Falls : Mark → Mark → Type 0
Falls m n = InOrder n m

module _ {V : Type 0} (rises : V → Mark → ℕ → V → Type 0) where
  pub Raises-append : (a b c : ℕ) (xs xs' ys ys' : List Mark) (u v w : V) → Raises rises a xs u xs' v b → Raises rises b ys v ys' w c → Raises rises a (xs ++ ys) u (xs' ++ ys') w c
  Raises-append a b c xs xs' ys ys' u v w (Raises.done most x) rest = rest
  Raises-append a b c xs xs' ys ys' u v w (Raises.stays m ms ms' x y last on) rest =
      Raises.stays m (ms ++ ys) (ms' ++ ys') x w c (Raises-append 0 last c ms ms' ys ys' x y w on rest)
  Raises-append a b c xs xs' ys ys' u v w (Raises.goes_on most rise last m ms ms' x y z some told on) rest =
      Raises.goes_on most rise c m (ms ++ ys) (ms' ++ ys') x y w some told (Raises-append (min rise most) last c ms ms' ys ys' y z w on rest)

  pub Raises-none : (xs : List Mark) (u : V) → Raises rises 0 xs u xs u 0
  Raises-none [] u = Raises.done 0 u
  Raises-none (m ∷ ms) u = Raises.stays m ms ms u u 0 (Raises-none ms u)

  pub Raises-one : (most rise : ℕ) (m : Mark) (v w : V) → 0 < most → rises v m rise w → Raises rises most (m ∷ []) v (higher (min rise most) m ∷ []) w (min rise most)
  Raises-one most rise m v w some told = Raises.goes_on most rise (min rise most) m [] [] v w w some told (Raises.done (min rise most) w)

  pub Raises-length : (a b : ℕ) (xs xs' : List Mark) (u v : V) → Raises rises a xs u xs' v b → length xs' ≡ length xs
  Raises-length a b xs xs' u v (Raises.done most x) = refl
  Raises-length a b xs xs' u v (Raises.stays m ms ms' x y last on) = ap suc (Raises-length 0 last ms ms' x y on)
  Raises-length a b xs xs' u v (Raises.goes_on most rise last m ms ms' x y z some told on) = ap suc (Raises-length (min rise most) last ms ms' y z on)

  -- the bounds are below this one, and the places at or before this one
  abbrev AreUnder : ℕ → ℕ → List Mark → Type 0
  AreUnder bound place ms = All (λ n. (n.bound.0 < bound) × (n.position ≤ place)) ms

  under_more : (bound low high : ℕ) (ms : List Mark) → low ≤ high → AreUnder bound low ms → AreUnder bound high ms
  under_more bound low high ms order all = λ k d h. let one = all k d h in (one.0, omega (arith, one.1, order))

  Raises-under : (bound place a b : ℕ) (xs xs' : List Mark) (u v : V) → Raises rises a xs u xs' v b → AreUnder bound place xs → AreUnder bound (place + a) xs'
  Raises-under bound place a b xs xs' u v (Raises.done most x) all = All-nil (λ n. (n.bound.0 < bound) × (n.position ≤ place + most))
  Raises-under bound place a b xs xs' u v (Raises.stays m ms ms' x y last on) all =
      let first = All-head (λ n. (n.bound.0 < bound) × (n.position ≤ place)) m ms all in
      All-cons (λ n. (n.bound.0 < bound) × (n.position ≤ place + 0)) m ms' (first.0, omega (arith, first.1))
      (Raises-under bound place 0 last ms ms' x y on (All-tail (λ n. (n.bound.0 < bound) × (n.position ≤ place)) m ms all))
  Raises-under bound place a b xs xs' u v (Raises.goes_on most rise last m ms ms' x y z some told on) all =
      let first = All-head (λ n. (n.bound.0 < bound) × (n.position ≤ place)) m ms all in
      let rest = Raises-under bound place (min rise most) last ms ms' y z on (All-tail (λ n. (n.bound.0 < bound) × (n.position ≤ place)) m ms all) in
      All-cons (λ n. (n.bound.0 < bound) × (n.position ≤ place + most)) (higher (min rise most) m) ms' (first.0, omega (arith, first.1))
      (under_more bound (place + min rise most) (place + most) ms' (omega arith) rest)

  under_falls : (m : Mark) (ms : List Mark) → AllPairs Falls (m ∷ ms) → AreUnder m.bound.0 m.position ms
  under_falls m ms pairs = λ k d h. let one = pairs zero (suc k) d (omega arith) (omega arith) in (one.bounds, one.positions)

  falls_under : (m : Mark) (ms : List Mark) → AreUnder m.bound.0 m.position ms → All (Falls m) ms
  falls_under m ms all = λ k d h. let one = all k d h in record { bounds = one.0; positions = one.1 }

  Raises-falling : (a b : ℕ) (xs xs' : List Mark) (u v : V) → Raises rises a xs u xs' v b → AllPairs Falls xs → AllPairs Falls xs'
  Raises-falling a b xs xs' u v (Raises.done most x) pairs = pairs
  Raises-falling a b xs xs' u v (Raises.stays m ms ms' x y last on) pairs =
      let under = Raises-under m.bound.0 m.position 0 last ms ms' x y on (under_falls m ms pairs) in
      let none : m.position + 0 ≡ m.position = omega arith in
      AllPairs-cons Falls m ms' (falls_under m ms' (rw none at under)) (Raises-falling 0 last ms ms' x y on (AllPairs-tail Falls m ms pairs))
  Raises-falling a b xs xs' u v (Raises.goes_on most rise last m ms ms' x y z some told on) pairs =
      let under = Raises-under m.bound.0 m.position (min rise most) last ms ms' y z on (under_falls m ms pairs) in
      AllPairs-cons Falls (higher (min rise most) m) ms' (falls_under (higher (min rise most) m) ms' under) (Raises-falling (min rise most) last ms ms' y z on (AllPairs-tail Falls m ms pairs))

  pub Rising-raises : (a b : ℕ) (xs xs' : List Mark) (u v : V) → Raises rises a (reverse xs) u (reverse xs') v b → Rising xs → Rising xs'
  Rising-raises a b xs xs' u v raises rising =
      let falling = Raises-falling a b (reverse xs) (reverse xs') u v raises (AllPairs-reverse InOrder xs rising) in
      subst (λ (ys : List Mark). AllPairs InOrder ys) (reverse-reverse xs') (AllPairs-reverse Falls (reverse xs') falling)

  pub length-raises : (a b : ℕ) (xs xs' : List Mark) (u v : V) → Raises rises a (reverse xs) u (reverse xs') v b → length xs' ≡ length xs
  length-raises a b xs xs' u v raises = omega (arith, Raises-length a b (reverse xs) (reverse xs') u v raises, length-reverse xs, length-reverse xs')

  -- the marks on the right, the one between, and those on the left
  pub Raises-node : (a b c d : ℕ) (l l' : List Mark) (m m' : Mark) (r r' : List Mark) (u v w x : V) → Raises rises a (reverse r) u (reverse r') v b → Raises rises b (m ∷ []) v (m' ∷ []) w c → Raises rises c (reverse l) w (reverse l') x d → Raises rises a (reverse (l ++ m ∷ r)) u (reverse (l' ++ m' ∷ r')) x d
  Raises-node a b c d l l' m m' r r' u v w x right at left =
      rw (reverse-node l m r, reverse-node l' m' r') (Raises-append a b d (reverse r) (reverse r') (m ∷ reverse l) (m' ∷ reverse l') u v x right (Raises-append b c d (m ∷ []) (m' ∷ []) (reverse l) (reverse l') v w x at left))

  -- the node is as balanced as before
  pub IsBalanced-raises : (a b : ℕ) (l l2 : Option (Box Grown Global)) (m m2 : Mark) (r r2 : Option (Box Grown Global)) (h : ℕ) (u v : V) → Raises rises a (reverse (marks_in_tree l ++ m ∷ marks_in_tree r)) u (reverse (marks_in_tree l2 ++ m2 ∷ marks_in_tree r2)) v b
      → height_of l2 ≡ height_of l → height_of r2 ≡ height_of r → IsBalanced l m r h → IsBalanced l2 m2 r2 h
  IsBalanced-raises a b l l2 m m2 r r2 h u v raises left right balanced =
      IsBalanced-walked l l2 m m2 r r2 h (Rising-raises a b (marks_in_tree l ++ m ∷ marks_in_tree r) (marks_in_tree l2 ++ m2 ∷ marks_in_tree r2) u v raises balanced.rising) (length-raises a b (marks_in_tree l ++ m ∷ marks_in_tree r) (marks_in_tree l2 ++ m2 ∷ marks_in_tree r2) u v raises) left right balanced
