-- How a walk from the lowest mark up is made of walks over parts of the marks, and what it keeps.
use Rattle.std.proofs.Common.{◌≡◌, ℕ, zero, suc, ◌<◌, ◌≤◌, max, List, [], ◌∷◌, ◌++◌, length, refl, ap, arith}
use Rattle.std.specs.Prelude.{Option, All}
use Rattle.std.specs.declared.alloc.Global.{Global}
use Rattle.std.proofs.Common.{Box}
use Rattle.std.proofs.lemmas.List.Elements.{All-nil, All-cons, All-head, All-tail}
use Rattle.crack_index.specs.declared.mark.Mark.{Mark}
use Rattle.crack_index.specs.Marks.{InOrder, Rising}
use Rattle.crack_index.specs.Places.{Places, at_place}
use Rattle.crack_index.specs.Trees.{Grown, marks_in_tree}
use Rattle.crack_index.specs.Keeps.{height_of, IsBalanced}
use Rattle.crack_index.proofs.WalkLemmas.{AllPairs-cons, AllPairs-tail, IsBalanced-walked}

module _ {V : Type 0} (places : V → Mark → ℕ → V → Type 0) where
  pub Places-append : (a b c : ℕ) (xs xs' ys ys' : List Mark) (u v w : V) → Places places a xs u xs' v b → Places places b ys v ys' w c → Places places a (xs ++ ys) u (xs' ++ ys') w c
  Places-append a b c xs xs' ys ys' u v w (Places.done least x) rest = rest
  Places-append a b c xs xs' ys ys' u v w (Places.goes_on least place last m ms ms' x y z told on) rest =
      Places.goes_on least place c m (ms ++ ys) (ms' ++ ys') x y w told (Places-append (max place least) last c ms ms' ys ys' y z w on rest)

  pub Places-one : (least place : ℕ) (m : Mark) (v w : V) → places v m place w → Places places least (m ∷ []) v (at_place (max place least) m ∷ []) w (max place least)
  Places-one least place m v w told = Places.goes_on least place (max place least) m [] [] v w w told (Places.done (max place least) w)

  pub Places-length : (a b : ℕ) (xs xs' : List Mark) (u v : V) → Places places a xs u xs' v b → length xs' ≡ length xs
  Places-length a b xs xs' u v (Places.done least x) = refl
  Places-length a b xs xs' u v (Places.goes_on least place last m ms ms' x y z told on) = ap suc (Places-length (max place least) last ms ms' y z on)

  -- the bounds are above this one, and the places at or after this one
  abbrev AreAbove : ℕ → ℕ → List Mark → Type 0
  AreAbove bound place ms = All (λ n. (bound < n.bound.0) × (place ≤ n.position)) ms

  Places-above : (bound a b : ℕ) (xs xs' : List Mark) (u v : V) → Places places a xs u xs' v b → All (λ n. bound < n.bound.0) xs → AreAbove bound a xs'
  Places-above bound a b xs xs' u v (Places.done least x) all = All-nil (λ n. (bound < n.bound.0) × (least ≤ n.position))
  Places-above bound a b xs xs' u v (Places.goes_on least place last m ms ms' x y z told on) all =
      let first = All-head (λ n. bound < n.bound.0) m ms all in
      let rest = Places-above bound (max place least) last ms ms' y z on (All-tail (λ n. bound < n.bound.0) m ms all) in
      All-cons (λ n. (bound < n.bound.0) × (least ≤ n.position)) (at_place (max place least) m) ms' (first, omega arith) (λ k d h. let one = rest k d h in (one.0, omega (arith, one.1)))

  pub Rising-places : (a b : ℕ) (xs xs' : List Mark) (u v : V) → Places places a xs u xs' v b → Rising xs → Rising xs'
  Rising-places a b xs xs' u v (Places.done least x) rising = rising
  Rising-places a b xs xs' u v (Places.goes_on least place last m ms ms' x y z told on) rising =
      let higher : All (λ n. m.bound.0 < n.bound.0) ms = λ k d h. (rising zero (suc k) d (omega arith) (omega (arith, h))).bounds in
      let above = Places-above m.bound.0 (max place least) last ms ms' y z on higher in
      AllPairs-cons InOrder (at_place (max place least) m) ms' (λ k d h. let one = above k d h in record { bounds = one.0; positions = one.1 }) (Rising-places (max place least) last ms ms' y z on (AllPairs-tail InOrder m ms rising))

  -- the marks on the left, the one between, and those on the right
  pub Places-node : (a b c d : ℕ) (l l' : List Mark) (m m' : Mark) (r r' : List Mark) (u v w x : V) → Places places a l u l' v b → Places places b (m ∷ []) v (m' ∷ []) w c → Places places c r w r' x d → Places places a (l ++ m ∷ r) u (l' ++ m' ∷ r') x d
  Places-node a b c d l l' m m' r r' u v w x left at right =
      Places-append a b d l l' (m ∷ r) (m' ∷ r') u v x left (Places-append b c d (m ∷ []) (m' ∷ []) r r' v w x at right)

  -- the node is as balanced as before
  pub IsBalanced-places : (a b : ℕ) (l l2 : Option (Box Grown Global)) (m m2 : Mark) (r r2 : Option (Box Grown Global)) (h : ℕ) (u v : V) → Places places a (marks_in_tree l ++ m ∷ marks_in_tree r) u (marks_in_tree l2 ++ m2 ∷ marks_in_tree r2) v b
      → height_of l2 ≡ height_of l → height_of r2 ≡ height_of r → IsBalanced l m r h → IsBalanced l2 m2 r2 h
  IsBalanced-places a b l l2 m m2 r r2 h u v walked left right balanced =
      IsBalanced-walked l l2 m m2 r r2 h (Rising-places a b (marks_in_tree l ++ m ∷ marks_in_tree r) (marks_in_tree l2 ++ m2 ∷ marks_in_tree r2) u v walked balanced.rising) (Places-length a b (marks_in_tree l ++ m ∷ marks_in_tree r) (marks_in_tree l2 ++ m2 ∷ marks_in_tree r2) u v walked) left right balanced
