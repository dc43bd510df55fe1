-- Laws of how often a number is in a list.
use Rattle.std.proofs.Common.{◌≡◌, ◌≢◌, ℕ, ◌+◌, ◌<◌, ◌≤◌, List, [], ◌∷◌, ◌++◌, map, length, get_or, set, cond, Bool, sum_by, refl, ap, ◌∙◌, subst, arith}
use Rattle.std.specs.Prelude.{◌==◌, remove, IsPermutation}
use Rattle.std.proofs.lemmas.List.{map-append}
use Rattle.std.proofs.lemmas.List.Sums.{sum_by-cons, sum_by-append, sum_by-set, sum_by-remove, count_by-le-length}
use Rattle.std.proofs.lemmas.List.Sorted.{sum_by-IsPermutation}
use Rattle.std.proofs.lemmas.Bool.{eq-eqb, ne_eqb}
use Rattle.crack_arena.specs.Arena.{times}

pub times-nil : (n : ℕ) → times n [] ≡ 0
unfolding times
times-nil n = refl

pub times-cons : (n x : ℕ) (xs : List ℕ) → times n (x ∷ xs) ≡ cond (x == n) 1 0 + times n xs
unfolding times
times-cons n x xs = sum_by-cons (λ y. cond (y == n) 1 0) x xs

pub times_one : (n x : ℕ) → times n (x ∷ []) ≡ cond (x == n) 1 0
times_one n x = omega (arith, times-cons n x [], times-nil n)

pub times-append : (n : ℕ) (xs ys : List ℕ) → times n (xs ++ ys) ≡ times n xs + times n ys
unfolding times
times-append n xs ys = sum_by-append (λ y. cond (y == n) 1 0) xs ys

times-set_cond : (n : ℕ) (xs : List ℕ) (i y d : ℕ) → i < length xs → times n (set xs i y) + cond (get_or xs i d == n) 1 0 ≡ times n xs + cond (y == n) 1 0
unfolding times
times-set_cond n xs i y d h = sum_by-set (λ x. cond (x == n) 1 0) xs i y d h

-- a write puts one number in, and takes one out
pub times-set : (n : ℕ) (xs : List ℕ) (i y d : ℕ) → i < length xs → times n (set xs i y) + times n (get_or xs i d ∷ []) ≡ times n xs + times n (y ∷ [])
times-set n xs i y d h = rw (times_one n (get_or xs i d), times_one n y) (times-set_cond n xs i y d h)

pub times_other : (n x : ℕ) → x ≢ n → times n (x ∷ []) ≡ 0
times_other n x ne = times_one n x ∙ rw (ne_eqb x n ne) refl

pub times_head : (k : ℕ) (ks : List ℕ) → times k (k ∷ ks) ≡ 1 + times k ks
times_head k ks = times-cons k k ks ∙ rw (eq-eqb k k refl) refl

-- a number that is not in a list is not at its head, nor in its rest
pub times_apart : (k m : ℕ) (ks : List ℕ) → times k (m ∷ ks) ≡ 0 → (m ≢ k) × (times k ks ≡ 0)
times_apart k m ks none = (
  λ e. let again : times k (k ∷ ks) ≡ 0 = subst (λ (x : ℕ). times k (x ∷ ks) ≡ 0) e none in absurd (omega (arith, times_head k ks)),
  omega (arith, times-cons k m ks),
)

-- no number is in a list more often than the list is long
pub times-le-length : (n : ℕ) (xs : List ℕ) → times n xs ≤ length xs
unfolding times
times-le-length n xs = count_by-le-length (λ x. x == n) xs

-- lists that hold the same, each number as often
pub times-IsPermutation : (n : ℕ) (xs ys : List ℕ) → IsPermutation xs ys → times n ys ≡ times n xs
unfolding times
times-IsPermutation n xs ys same = sum_by-IsPermutation (λ x. cond (x == n) 1 0) xs ys same

module _ {X : Type 0} where
  -- how often a number is among those that `f` reads from a list, as the slots of handles
  pub times-map : (n : ℕ) (f : X → ℕ) (xs : List X) → times n (map f xs) ≡ sum_by (λ x. cond (f x == n) 1 0) xs
  times-map n f [] = times-nil n
  times-map n f (x ∷ xs) = omega (arith, times-cons n (f x) (map f xs), times-map n f xs, sum_by-cons (λ x. cond (f x == n) 1 0) x xs)

  pub times-map-append : (n : ℕ) (f : X → ℕ) (xs ys : List X) → times n (map f (xs ++ ys)) ≡ times n (map f xs) + times n (map f ys)
  times-map-append n f xs ys = rw (map-append f xs ys) (times-append n (map f xs) (map f ys))

  pub times-map-remove : (n : ℕ) (f : X → ℕ) (xs : List X) (i : ℕ) (d : X) → i < length xs → times n (map f (remove xs i)) + times n (f (get_or xs i d) ∷ []) ≡ times n (map f xs)
  times-map-remove n f xs i d h =
      omega (arith, times_one n (f (get_or xs i d)), times-map n f (remove xs i), times-map n f xs, sum_by-remove (λ x. cond (f x == n) 1 0) xs i d h)

  pub times-map-IsPermutation : (n : ℕ) (f : X → ℕ) (xs ys : List X) → IsPermutation xs ys → times n (map f ys) ≡ times n (map f xs)
  times-map-IsPermutation n f xs ys same =
      omega (arith, times-map n f xs, times-map n f ys, sum_by-IsPermutation (λ x. cond (f x == n) 1 0) xs ys same)

  -- what is at a place is read from it
  pub times_map_at : (n : ℕ) (f : X → ℕ) (xs : List X) (i : ℕ) (d : X) → i < length xs → f (get_or xs i d) ≡ n → 0 < times n (map f xs)
  times_map_at n f xs i d h at =
      omega (arith, times-map-remove n f xs i d h, times_one n (f (get_or xs i d)), ap (λ (b : Bool). cond {A = ℕ} b 1 0) (eq-eqb (f (get_or xs i d)) n at))
