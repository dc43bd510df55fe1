-- Laws of the sums of integers that the elements of lists give.
use Rattle.std.proofs.Common.{◌≡◌, ℕ, ◌+◌, ◌*◌, ℤ, pos, negsuc, ◌+ℤ◌, neg_ℤ, ◌≤ℤ◌, map, List, [], ◌∷◌, ◌++◌, length, fold, refl, ◌∙◌, arith, Bool, filter, cond, inl, inr}
use Rattle.std.specs.List.{All, sum_by}
use Rattle.std.specs.List.Sorted.{IsPermutation}
use Rattle.std.proofs.lemmas.Bool.{cases_Bool}
use Rattle.std.proofs.lemmas.Int.{ints}
use Rattle.std.proofs.lemmas.List.Elements.{All-head, All-tail}
use Rattle.std.proofs.lemmas.List.Sums.{fold-append, sum_by-cons}
use Rattle.std.proofs.lemmas.List.Sorted.{sum_by-IsPermutation}
use Rattle.crack_row.specs.Rows.{total_by}

module _ {X : Type 0} (number : X → ℤ) where
  abbrev adding : ℤ → X → ℤ
  adding total x = total +ℤ number x

  -- a total that goes on from a number
  total_from : (first : ℤ) (xs : List X) → fold adding first xs ≡ first +ℤ total_by number xs
  total_from first [] = omega (arith, ints)
  total_from first (x ∷ xs) = omega (arith, ints, total_from (first +ℤ number x) xs, total_from (pos 0 +ℤ number x) xs)

  -- one more element, before the others or after them
  pub total_by-cons : (x : X) (xs : List X) → total_by number (x ∷ xs) ≡ number x +ℤ total_by number xs
  total_by-cons x xs = omega (arith, ints, total_from (pos 0 +ℤ number x) xs)

  pub total_by-append : (xs ys : List X) → total_by number (xs ++ ys) ≡ total_by number xs +ℤ total_by number ys
  total_by-append xs ys = fold-append adding (pos 0) xs ys ∙ total_from (total_by number xs) ys

  -- if each element is between -n and n, the total is between -n and n times the length
  pub total_by-least : (greatest : ℕ) (xs : List X) → All (λ x. neg_ℤ (pos greatest) ≤ℤ number x) xs → neg_ℤ (pos (length xs * greatest)) ≤ℤ total_by number xs
  total_by-least greatest [] all = omega (arith, ints)
  total_by-least greatest (x ∷ xs) all =
      let first = All-head (λ y. neg_ℤ (pos greatest) ≤ℤ number y) x xs all in
      let rest = total_by-least greatest xs (All-tail (λ y. neg_ℤ (pos greatest) ≤ℤ number y) x xs all) in
      omega (arith, ints, first, rest, total_by-cons x xs)

  pub total_by-most : (greatest : ℕ) (xs : List X) → All (λ x. number x ≤ℤ pos greatest) xs → total_by number xs ≤ℤ pos (length xs * greatest)
  total_by-most greatest [] all = omega (arith, ints)
  total_by-most greatest (x ∷ xs) all =
      let first = All-head (λ y. number y ≤ℤ pos greatest) x xs all in
      let rest = total_by-most greatest xs (All-tail (λ y. number y ≤ℤ pos greatest) x xs all) in
      omega (arith, ints, first, rest, total_by-cons x xs)

-- the positive part of an integer, and its negative part
abbrev gained : ℤ → ℕ
gained (pos n) = n
gained (negsuc n) = 0

abbrev lost : ℤ → ℕ
lost (pos n) = 0
lost (negsuc n) = n + 1

gained-lost : (z : ℤ) → z ≡ pos (gained z) +ℤ neg_ℤ (pos (lost z))
gained-lost (pos n) =
    let is : pos n ≡ pos n +ℤ neg_ℤ (pos 0) = omega (arith, ints) in
    is
gained-lost (negsuc n) =
    let is : negsuc n ≡ pos 0 +ℤ neg_ℤ (pos (n + 1)) = omega (arith, ints) in
    is

module _ {X : Type 0} (number : X → ℤ) where
  total_by-parts : (xs : List X) → total_by number xs ≡ pos (sum_by (λ x. gained (number x)) xs) +ℤ neg_ℤ (pos (sum_by (λ x. lost (number x)) xs))
  total_by-parts [] = omega (arith, ints)
  total_by-parts (x ∷ xs) =
      omega (arith, ints, total_by-cons number x xs, total_by-parts xs, gained-lost (number x), sum_by-cons (λ y. gained (number y)) x xs, sum_by-cons (λ y. lost (number y)) x xs)

  -- the order of the elements doesn't matter
  pub total_by-permutation : (xs ys : List X) → IsPermutation xs ys → total_by number ys ≡ total_by number xs
  total_by-permutation xs ys same =
      omega (arith, ints, total_by-parts xs, total_by-parts ys, sum_by-IsPermutation (λ x. gained (number x)) xs ys same, sum_by-IsPermutation (λ x. lost (number x)) xs ys same)

-- the total of a mapped list
pub total_by-map : {X Y : Type 0} (number : Y → ℤ) (g : X → Y) (xs : List X) → total_by number (map g xs) ≡ total_by (λ x. number (g x)) xs
total_by-map number g [] = refl
total_by-map number g (x ∷ xs) = omega (arith, ints, total_by-cons number (g x) (map g xs), total_by-cons (λ y. number (g y)) x xs, total_by-map number g xs)

-- functions that agree at a list's elements have the same total
pub total_by-agree : {X : Type 0} (f g : X → ℤ) (xs : List X) → All (λ x. f x ≡ g x) xs → total_by f xs ≡ total_by g xs
total_by-agree f g [] all = refl
total_by-agree f g (x ∷ xs) all =
    let here = All-head (λ y. f y ≡ g y) x xs all in
    omega (arith, ints, here, total_by-cons f x xs, total_by-cons g x xs, total_by-agree f g xs (All-tail (λ y. f y ≡ g y) x xs all))

-- the elements that a filter leaves out add nothing
module _ {X : Type 0} (number : X → ℤ) (keeps : X → Bool) where
  abbrev kept : X → ℤ
  kept x = cond (keeps x) (number x) (pos 0)

  pub total_by-filter : (xs : List X) → total_by number (filter keeps xs) ≡ total_by (λ x. cond (keeps x) (number x) (pos 0)) xs
  total_by-filter [] = refl
  total_by-filter (x ∷ xs) =
      let rest : total_by number (filter keeps xs) ≡ total_by kept xs = total_by-filter xs in
      let more : total_by kept (x ∷ xs) ≡ kept x +ℤ total_by kept xs = total_by-cons kept x xs in
      elim (cases_Bool (keeps x)) [
        | inl is ↦ (
            let first : total_by number (filter keeps (x ∷ xs)) ≡ total_by number (x ∷ filter keeps xs) = rw is refl in
            let one : kept x ≡ number x = rw is refl in
            omega (arith, ints, first, one, total_by-cons number x (filter keeps xs), more, rest)
            )
        | inr is ↦ (
            let first : total_by number (filter keeps (x ∷ xs)) ≡ total_by number (filter keeps xs) = rw is refl in
            let none : kept x ≡ pos 0 = rw is refl in
            omega (arith, ints, first, none, more, rest)
            )
      ]
