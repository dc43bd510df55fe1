-- The totals of lists of pieces, and of their parts.
use Rattle.std.proofs.Common.{◌≡◌, ℕ, ◌+◌, ◌<◌, ◌≤◌, List, [], ◌∷◌, ◌++◌, refl, sym, ◌∙◌, inl, inr, arith, append_assoc}
use Rattle.std.specs.Prelude.{ℤ, pos, negsuc, ◌+ℤ◌, neg_ℤ, ◌≤ℤ◌, ◌^◌, unsigned_abs, true, false}
use Rattle.std.specs.Ordering.{int_eq}
use Rattle.std.proofs.lemmas.Bool.{cases_Bool, lt-ltb, le-leb}
use Rattle.std.proofs.lemmas.Bool.Decides.{Decides-int_eq}
use Rattle.std.proofs.lemmas.Int.{ints}
use Rattle.crack_index.specs.declared.sums.TheConstants.{UNKNOWN}
use Rattle.crack_index.specs.Sums.{IsKnown, fits, both}
use Rattle.crack_index.specs.SumKeeps.{IsTotal, AllKnown, total_of, distance_of}
use Rattle.crack_index.proofs.Walking.{IsNear, near_itself, near_sum}
use Rattle.crack_index.proofs.Changed.{later-known}

pub total-append : (xs ys : List (ℕ × ℤ)) → total_of (xs ++ ys) ≡ total_of xs +ℤ total_of ys
total-append [] ys = omega (arith, ints)
total-append (x ∷ xs) ys = let rest = total-append xs ys in omega (arith, ints)

pub distance-append : (xs ys : List (ℕ × ℤ)) → distance_of (xs ++ ys) ≡ distance_of xs + distance_of ys
distance-append [] ys = omega arith
distance-append (x ∷ xs) ys = let rest = distance-append xs ys in omega arith

pub known-append : (xs ys : List (ℕ × ℤ)) → AllKnown xs → AllKnown ys → AllKnown (xs ++ ys)
known-append [] ys one two = two
known-append (x ∷ xs) ys one two = (one.0, known-append xs ys one.1 two)

pub known-parts : (xs ys : List (ℕ × ℤ)) → AllKnown (xs ++ ys) → AllKnown xs × AllKnown ys
known-parts [] ys all = (tt, all)
known-parts (x ∷ xs) ys all = let rest = known-parts xs ys all.1 in ((all.0, rest.0), rest.1)

near_total : (es : List (ℕ × ℤ)) → IsNear (total_of es) (distance_of es)
near_total [] = near_itself (pos 0)
near_total (e ∷ es) = near_sum e.1 (total_of es) (unsigned_abs e.1) (distance_of es) (near_itself e.1) (near_total es)

-- the sum of both is known only if those of both are
pub both-known : (lower upper : ℤ) → IsKnown (both lower upper) → IsKnown lower × IsKnown upper × (both lower upper ≡ lower +ℤ upper)
both-known lower upper known = elim (cases_Bool (int_eq upper UNKNOWN)) [
  | inl none ↦ absurd (known (rw none refl))
  | inr there ↦
      let one = later-known upper lower (rw there at known) in
      (one.0, λ is. (let two : int_eq upper UNKNOWN ≡ true = rw is (refl) in absurd (cc)), rw there one.1)
]

-- a number that is near enough to 0 fits, and isn't UNKNOWN
near_in : (number : ℤ) (n : ℕ) → IsNear number n → n < 2 ^ 127 → fits number ≡ true
near_in (pos k) n is h =
    let one = is.0 in
    let few : k < 2 ^ 127 = omega (arith, ints) in
    rw (lt-ltb k (2 ^ 127) few) refl
near_in (negsuc k) n is h =
    let one = is.1 in
    let few : k ≤ 170141183460469231731687303715884105727 = omega (arith, ints) in
    rw (le-leb k 170141183460469231731687303715884105727 few) refl

near_known : (number : ℤ) (n : ℕ) → IsNear number n → n < 2 ^ 127 → IsKnown number
near_known number n is h = λ unknown.
    let one : neg_ℤ (pos n) ≤ℤ UNKNOWN = rw unknown at is.1 in
    omega (arith, ints)

pub known-ne : (sum : ℤ) → IsKnown sum → int_eq sum UNKNOWN ≡ false
known-ne sum known = elim (cases_Bool (int_eq sum UNKNOWN)) [
  | inl is ↦ absurd (known ((Decides-int_eq sum UNKNOWN).0 is))
  | inr apart ↦ apart
]

both_near : (lower upper : ℤ) (n : ℕ) → IsKnown lower → IsKnown upper → IsNear (lower +ℤ upper) n → n < 2 ^ 127 → both lower upper ≡ lower +ℤ upper
both_near lower upper n is_low is_up near h = rw (known-ne upper is_up, known-ne lower is_low, near_in (lower +ℤ upper) n near h) refl

-- the totals of two lists, as the total of both
pub IsTotal-append : (xs ys : List (ℕ × ℤ)) (lower upper : ℤ) → IsTotal xs lower → IsTotal ys upper → IsTotal (xs ++ ys) (both lower upper)
IsTotal-append xs ys lower upper one two = record {
  right = λ known.
      let parts = both-known lower upper known in
      let low = one.right parts.0 in
      let up = two.right parts.1 in
      let sum = parts.2 in
      let all = total-append xs ys in
      (known-append xs ys low.0 up.0, let a = low.1 in let b = up.1 in omega (arith, ints));
  found = λ all few.
      let parts = known-parts xs ys all in
      let whole = distance-append xs ys in
      let is_low = one.found parts.0 (omega arith) in
      let is_up = two.found parts.1 (omega arith) in
      let low = (one.right is_low).1 in
      let up = (two.right is_up).1 in
      let near : IsNear (lower +ℤ upper) (distance_of xs + distance_of ys) = rw (low, up) (near_sum (total_of xs) (total_of ys) (distance_of xs) (distance_of ys) (near_total xs) (near_total ys)) in
      rw (both_near lower upper (distance_of xs + distance_of ys) is_low is_up near (omega arith)) (near_known (lower +ℤ upper) (distance_of xs + distance_of ys) near (omega arith));
}

pub IsTotal-one : (e : ℕ × ℤ) → IsTotal (e ∷ []) e.1
IsTotal-one e = record { right = λ known. ((known, tt), omega (arith, ints)); found = λ all few. all.0 }

-- the totals of both sides and the piece between them
pub IsTotal-over : (xs ys : List (ℕ × ℤ)) (start : ℕ) (lower sum upper : ℤ) → IsTotal xs lower → IsTotal ys upper → IsTotal (xs ++ (start, sum) ∷ ys) (both (both lower sum) upper)
IsTotal-over xs ys start lower sum upper one two =
    let left : IsTotal (xs ++ (start, sum) ∷ []) (both lower sum) = IsTotal-append xs ((start, sum) ∷ []) lower sum one (IsTotal-one (start, sum)) in
    let all : IsTotal ((xs ++ (start, sum) ∷ []) ++ ys) (both (both lower sum) upper) = IsTotal-append (xs ++ (start, sum) ∷ []) ys (both lower sum) upper left two in
    rw (append_assoc xs ((start, sum) ∷ []) ys) at all

-- the pieces on the right of a walk down, or on its left, which it passed, and their total
pub record IsBehind (all left : List (ℕ × ℤ)) (total : ℤ) : Type 0 where
  pub passed : List (ℕ × ℤ)
  pub whole : left ++ passed ≡ all
  pub sum : IsTotal passed total

pub record IsBefore (all left : List (ℕ × ℤ)) (total : ℤ) : Type 0 where
  pub passed : List (ℕ × ℤ)
  pub whole : passed ++ left ≡ all
  pub sum : IsTotal passed total

pub behind-step : (all xs ys : List (ℕ × ℤ)) (e : ℕ × ℤ) (upper total : ℤ) → IsTotal ys upper → IsBehind all (xs ++ e ∷ ys) total → IsBehind all xs (both (both e.1 upper) total)
behind-step all xs ys e upper total right is = record {
  passed = (e ∷ ys) ++ is.passed;
  whole = sym (append_assoc xs (e ∷ ys) is.passed) ∙ is.whole;
  sum = IsTotal-append (e ∷ ys) is.passed (both e.1 upper) total (IsTotal-append (e ∷ []) ys e.1 upper (IsTotal-one e) right) is.sum;
}

pub before-step : (all xs ys : List (ℕ × ℤ)) (e : ℕ × ℤ) (lower total : ℤ) → IsTotal xs lower → IsBefore all (xs ++ e ∷ ys) total → IsBefore all ys (both (both total lower) e.1)
before-step all xs ys e lower total left is = record {
  passed = (is.passed ++ xs) ++ e ∷ [];
  whole = append_assoc (is.passed ++ xs) (e ∷ []) ys ∙ append_assoc is.passed xs (e ∷ ys) ∙ is.whole;
  sum = IsTotal-append (is.passed ++ xs) (e ∷ []) (both total lower) e.1 (IsTotal-append is.passed xs total lower is.sum left) (IsTotal-one e);
}
