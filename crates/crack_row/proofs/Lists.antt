-- Laws of lists alone: of maps, filters and searches, of one element less, and of what permutations keep.
use Rattle.std.proofs.Common.{◌≡◌, ◌⊎◌, ℕ, zero, suc, ◌+◌, ◌<◌, ◌≤◌, Bool, true, false, List, [], ◌∷◌, ◌++◌, map, filter, length, get_or, set, take, drop, cond, Option, Some, None, refl, sym, ap, ◌∙◌, inl, inr, arith, add-zero}
use Rattle.std.specs.List.{All, Contains, cons_option, filter_map, find, remove, swap, range_with_len}
use Rattle.std.specs.List.Sorted.{IsPermutation}
use Rattle.std.specs.Option.{IfSome}
use Rattle.std.proofs.lemmas.Bool.{true≢false}
use Rattle.std.proofs.lemmas.List.Edits.{swap_is}
use Rattle.std.proofs.lemmas.List.Elements.{All-nil, All-cons, All-head, All-tail, All-append, All-take, All-drop}
use Rattle.std.proofs.lemmas.List.Sorted.{IsPermutation-refl, IsPermutation-cons, IsPermutation-middle, IsPermutation-trans, IsPermutation-keeps, length_permutation}

-- functions that agree at a list's elements
pub map_agree : {X Y : Type 0} (f g : X → Y) (xs : List X) → All (λ x. f x ≡ g x) xs → map f xs ≡ map g xs
map_agree f g [] all = refl
map_agree f g (x ∷ xs) all = rw (All-head (λ y. f y ≡ g y) x xs all, map_agree f g xs (All-tail (λ y. f y ≡ g y) x xs all)) refl

-- a function that changes none of a list's elements
pub map_fixed : {X : Type 0} (f : X → X) (xs : List X) → All (λ x. f x ≡ x) xs → map f xs ≡ xs
map_fixed f [] all = refl
map_fixed f (x ∷ xs) all = rw (All-head (λ y. f y ≡ y) x xs all, map_fixed f xs (All-tail (λ y. f y ≡ y) x xs all)) refl

pub filter_map_agree : {X Y : Type 0} (f g : X → Option Y) (xs : List X) → All (λ x. f x ≡ g x) xs → filter_map f xs ≡ filter_map g xs
filter_map_agree f g [] all = refl
filter_map_agree f g (x ∷ xs) all = rw (All-head (λ y. f y ≡ g y) x xs all, filter_map_agree f g xs (All-tail (λ y. f y ≡ g y) x xs all)) refl

-- a function that maps every element to nothing
pub filter_map_none : {X Y : Type 0} (f : X → Option Y) (xs : List X) → All (λ x. f x ≡ None) xs → filter_map f xs ≡ []
filter_map_none f [] none = refl
filter_map_none f (x ∷ xs) none = rw (All-head (λ y. f y ≡ None) x xs none, filter_map_none f xs (All-tail (λ y. f y ≡ None) x xs none)) refl

pub filter_map-map : {X Y Z : Type 0} (f : Y → Option Z) (g : X → Y) (xs : List X) → filter_map f (map g xs) ≡ filter_map (λ x. f (g x)) xs
filter_map-map f g [] = refl
filter_map-map f g (x ∷ xs) = ap (cons_option (f (g x))) (filter_map-map f g xs)

-- the value of an option, if there is one and it passes a test
abbrev pub kept_by : {X : Type 0} → (X → Bool) → Option X → Option X
kept_by test None = None
kept_by test (Some x) = cond (test x) (Some x) None

kept_first : {X : Type 0} (b : Bool) (x : X) (xs : List X) → cond b (x ∷ xs) xs ≡ cons_option (cond b (Some x) None) xs
kept_first true x xs = refl
kept_first false x xs = refl

pub filter-filter_map : {X Y : Type 0} (test : Y → Bool) (f : X → Option Y) (xs : List X) → filter test (filter_map f xs) ≡ filter_map (λ x. kept_by test (f x)) xs
filter-filter_map test f [] = refl
filter-filter_map {X} {Y} test f (x ∷ xs) = rw (← filter-filter_map test f xs) (by_value (f x) (filter_map f xs))
  where
    by_value : (o : Option Y) (ys : List Y) → filter test (cons_option o ys) ≡ cons_option (kept_by test o) (filter test ys)
    by_value None ys = refl
    by_value (Some y) ys = kept_first (test y) y (filter test ys)

filter_is : {X : Type 0} (test : X → Bool) (xs : List X) → filter test xs ≡ filter_map (λ x. kept_by test (Some x)) xs
filter_is test [] = refl
filter_is test (x ∷ xs) = rw (← filter_is test xs) (kept_first (test x) x (filter test xs))

-- a filter that all elements pass leaves the list as it is
pub filter_all : {X : Type 0} (test : X → Bool) (xs : List X) → All (λ x. test x ≡ true) xs → filter test xs ≡ xs
filter_all test [] all = refl
filter_all test (x ∷ xs) all = rw (All-head (λ y. test y ≡ true) x xs all, filter_all test xs (All-tail (λ y. test y ≡ true) x xs all)) refl

-- what holds of all that the function returns holds of all elements of the mapped list
pub All-filter_map : {X Y : Type 0} (P : Y → Type 0) (f : X → Option Y) (xs : List X) → ((x : X) → IfSome (f x) P) → All P (filter_map f xs)
All-filter_map P f [] given = All-nil P
All-filter_map {X} {Y} P f (x ∷ xs) given = by_value (f x) (given x) (All-filter_map P f xs given)
  where
    by_value : (o : Option Y) → IfSome o P → All P (filter_map f xs) → All P (cons_option o (filter_map f xs))
    by_value None first rest = rest
    by_value (Some y) first rest = All-cons P y (filter_map f xs) first rest

-- what the function returns for an element is in the mapped list
pub Contains-filter_map : {X Y : Type 0} (f : X → Option Y) (xs : List X) (i : ℕ) (x : X) (y : Y) → i < length xs → get_or xs i x ≡ x → f x ≡ Some y → Contains (filter_map f xs) y
Contains-filter_map f [] i x y within at given = absurd (omega arith)
Contains-filter_map f (z ∷ zs) zero x y within at given = rw (at, given) (0, omega arith, refl)
Contains-filter_map {X} {Y} f (z ∷ zs) (suc i) x y within at given = behind (f z) (Contains-filter_map f zs i x y (omega arith) at given)
  where
    behind : (o : Option Y) → Contains (filter_map f zs) y → Contains (cons_option o (filter_map f zs)) y
    behind None is = is
    behind (Some v) is = (suc is.0, omega (arith, is.1), is.2)

-- an element is the first, or one of the rest
pub Contains-either : {X : Type 0} (x : X) (xs : List X) (y : X) → Contains (x ∷ xs) y → (y ≡ x) ⊎ Contains xs y
Contains-either {X} x xs y there = by_place there.0 there.1 there.2
  where
    by_place : (k : ℕ) → k < length (x ∷ xs) → get_or (x ∷ xs) k y ≡ y → (y ≡ x) ⊎ Contains xs y
    by_place zero within is = inl (sym is)
    by_place (suc k) within is = inr (k, omega (arith, within), is)

-- a search of a list in which one element alone passes finds it
pub find_only : {X : Type 0} (test : X → Bool) (x : X) (xs : List X) → Contains xs x → test x ≡ true → All (λ y. test y ≡ true → y ≡ x) xs → find test xs ≡ Some x
find_only test x [] there passes only = absurd (omega (arith, there.1))
find_only {X} test x (y ∷ ys) there passes only =
    by_test (test y) refl (λ later. find_only test x ys later passes (All-tail (λ z. test z ≡ true → z ≡ x) y ys only))
  where
    by_test : (b : Bool) → test y ≡ b → (Contains ys x → find test ys ≡ Some x) → cond b (Some y) (find test ys) ≡ Some x
    by_test true is rest = ap Some (All-head (λ z. test z ≡ true → z ≡ x) y ys only is)
    by_test false is rest = elim (Contains-either y ys x there) [
      | inl e ↦ absurd (true≢false (sym passes ∙ ap test e ∙ is))
      | inr later ↦ rest later
    ]

pub find_none : {X : Type 0} (test : X → Bool) (xs : List X) → All (λ x. test x ≡ false) xs → find test xs ≡ None
find_none test [] all = refl
find_none test (x ∷ xs) all = rw (All-head (λ y. test y ≡ false) x xs all) (find_none test xs (All-tail (λ y. test y ≡ false) x xs all))

pub All-removed : {X : Type 0} (P : X → Type 0) (xs : List X) (i : ℕ) → All P xs → All P (remove xs i)
All-removed P xs i all = All-append P (take i xs) (drop (suc i) xs) (All-take P i xs all) (All-drop P (suc i) xs all)

-- one element less at most
pub length-removed : {X : Type 0} (xs : List X) (i : ℕ) → length xs ≤ length (remove xs i) + 1
length-removed [] i = omega arith
length-removed (x ∷ xs) zero = omega arith
length-removed (x ∷ xs) (suc i) = omega (arith, length-removed xs i)

-- one more number
pub range_with_len-more : (a n : ℕ) → range_with_len a (suc n) ≡ range_with_len a n ++ (a + n) ∷ []
range_with_len-more a zero = rw add-zero refl
range_with_len-more a (suc n) =
    let shift : a + 1 + n ≡ a + suc n = omega arith in
    ap (λ ns. a ∷ ns) (rw shift at (range_with_len-more (a + 1) n))

module _ {X Y : Type 0} (f : X → Option Y) where
  two : (o p : Option Y) (ys : List Y) → IsPermutation (cons_option o (cons_option p ys)) (cons_option p (cons_option o ys))
  two None p ys = IsPermutation-refl (cons_option p ys)
  two (Some x) None ys = IsPermutation-refl (x ∷ ys)
  two (Some x) (Some y) ys = IsPermutation-middle (x ∷ []) y ys

  behind : (o : Option Y) (xs ys : List Y) → IsPermutation xs ys → IsPermutation (cons_option o xs) (cons_option o ys)
  behind None xs ys same = same
  behind (Some x) xs ys same = IsPermutation-cons x xs ys same

  -- the first element and another change places
  exchanged_first : (x : X) (xs : List X) (k : ℕ) (d : X) → k < length xs → IsPermutation (cons_option (f x) (filter_map f xs)) (cons_option (f (get_or xs k d)) (filter_map f (set xs k x)))
  exchanged_first x [] k d within = absurd (omega arith)
  exchanged_first x (y ∷ ys) zero d within = two (f x) (f y) (filter_map f ys)
  exchanged_first x (y ∷ ys) (suc k) d within =
      let later = behind (f y) _ _ (exchanged_first x ys k d (omega arith)) in
      IsPermutation-trans _ _ _ (two (f x) (f y) (filter_map f ys)) (IsPermutation-trans _ _ _ later (two (f y) (f (get_or ys k d)) (filter_map f (set ys k x))))

  exchanged : (xs : List X) (i j : ℕ) (d : X) → i < length xs → j < length xs → IsPermutation (filter_map f xs) (filter_map f (set (set xs i (get_or xs j d)) j (get_or xs i d)))
  exchanged [] i j d i_in j_in = absurd (omega arith)
  exchanged (x ∷ xs) zero zero d i_in j_in = IsPermutation-refl (filter_map f (x ∷ xs))
  exchanged (x ∷ xs) zero (suc j) d i_in j_in = exchanged_first x xs j d (omega arith)
  exchanged (x ∷ xs) (suc i) zero d i_in j_in = exchanged_first x xs i d (omega arith)
  exchanged (x ∷ xs) (suc i) (suc j) d i_in j_in = behind (f x) _ _ (exchanged xs i j d (omega arith) (omega arith))

  -- mapped permutations are permutations
  pub IsPermutation-filter_map : (xs ys : List X) → IsPermutation xs ys → IsPermutation (filter_map f xs) (filter_map f ys)
  IsPermutation-filter_map [] [] same = IsPermutation-refl []
  IsPermutation-filter_map [] (y ∷ ys) same = absurd (omega (arith, length_permutation [] (y ∷ ys) same))
  IsPermutation-filter_map (x ∷ xs) ys same =
      IsPermutation-keeps (x ∷ xs) (λ l. IsPermutation (filter_map f (x ∷ xs)) (filter_map f l)) (IsPermutation-refl (filter_map f (x ∷ xs))) (λ l i j i_in j_in so_far.
      IsPermutation-trans (filter_map f (x ∷ xs)) (filter_map f l) (filter_map f (swap l i j)) so_far (rw (swap_is l i j x i_in j_in) at (exchanged l i j x i_in j_in))) ys same

pub IsPermutation-filter : {X : Type 0} (test : X → Bool) (xs ys : List X) → IsPermutation xs ys → IsPermutation (filter test xs) (filter test ys)
IsPermutation-filter test xs ys same = rw (filter_is test xs, filter_is test ys) (IsPermutation-filter_map (λ x. kept_by test (Some x)) xs ys same)
