-- Places in a list of lists.
use Rattle.std.proofs.Common.{◌≡◌, ◌≢◌, ℕ, List, [], ◌∷◌, length, set, zero, suc, Bool, true, false, ◌==◌, ◌&&◌, Option, Some, None, refl, ap, arith, subst, sym}
use Rattle.std.specs.List.{slice_get}
use Rattle.std.specs.Option.{option_and_then}
use Rattle.std.proofs.lemmas.Bool.Decides.{nat_tests}
use Rattle.std.specs.Prelude.{nat_lt, is_some}
use Rattle.crack_table.specs.Cover.{at}

pub get_set_same : {X : Type 0} (xs : List X) (k : ℕ) (x y : X) → slice_get xs k ≡ Some x → slice_get (set xs k y) k ≡ Some y
get_set_same [] k x y is = cc
get_set_same (z ∷ zs) zero x y is = refl
get_set_same (z ∷ zs) (suc k) x y is = get_set_same zs k x y is

pub get_set_other : {X : Type 0} (xs : List X) (j k : ℕ) (y : X) → j ≢ k → slice_get (set xs k y) j ≡ slice_get xs j
get_set_other [] j k y ne = refl
get_set_other (z ∷ zs) zero zero y ne = absurd (ne refl)
get_set_other (z ∷ zs) zero (suc k) y ne = refl
get_set_other (z ∷ zs) (suc j) zero y ne = refl
get_set_other (z ∷ zs) (suc j) (suc k) y ne = get_set_other zs j k y (λ e. ne (ap suc e))

-- the row of a place
pub row_of : {X : Type 0} (o : Option (List X)) (n : ℕ) (x : X) → option_and_then (λ xs. slice_get xs n) o ≡ Some x → (row : List X) × (o ≡ Some row) × (slice_get row n ≡ Some x)
row_of None n x is = cc
row_of (Some row) n x is = (row, refl, is)

pub at_set_same : {X : Type 0} (xss : List (List X)) (p n : ℕ) (row : List X) (x y : X) → slice_get xss p ≡ Some row → slice_get row n ≡ Some x → at (set xss p (set row n y)) p n ≡ Some y
at_set_same xss p n row x y row_is x_is = rw (get_set_same xss p row (set row n y) row_is) (get_set_same row n x y x_is)

at_set_row : {X : Type 0} (xss : List (List X)) (p n m : ℕ) (row : List X) (y : X) → slice_get xss p ≡ Some row → m ≢ n → at (set xss p (set row n y)) p m ≡ at xss p m
at_set_row xss p n m row y row_is ne = rw (get_set_same xss p row (set row n y) row_is, row_is) (get_set_other row m n y ne)

at_set_by : {X : Type 0} (xss : List (List X)) (p n q m : ℕ) (row : List X) (y : X) → slice_get xss p ≡ Some row → (t : Bool) → (p == q) ≡ t → ((p == q) && (n == m)) ≡ false → at (set xss p (set row n y)) q m ≡ at xss q m
at_set_by xss p n q m row y row_is true is other =
    let e : p ≡ q = grind (arith, nat_tests) in
    let ne : m ≢ n = λ h. grind (arith, nat_tests) in
    let P : ℕ → Type 0 = λ k. at (set xss p (set row n y)) k m ≡ at xss k m in
    subst P e (at_set_row xss p n m row y row_is ne)
at_set_by xss p n q m row y row_is false is other =
    let ne : q ≢ p = λ h. grind (arith, nat_tests) in
    rw (get_set_other xss q p (set row n y) ne) refl

pub at_set_other : {X : Type 0} (xss : List (List X)) (p n q m : ℕ) (row : List X) (y : X) → slice_get xss p ≡ Some row → ((p == q) && (n == m)) ≡ false → at (set xss p (set row n y)) q m ≡ at xss q m
at_set_other xss p n q m row y row_is other = at_set_by xss p n q m row y row_is (p == q) refl other

-- there is an element exactly below the length
pub some_within : {X : Type 0} (xs : List X) (i : ℕ) → is_some (slice_get xs i) ≡ nat_lt i (length xs)
some_within [] i = let f : nat_lt i 0 ≡ false = grind (arith, nat_tests) in sym f
some_within (x ∷ xs) zero = let f : nat_lt 0 (suc (length xs)) ≡ true = grind (arith, nat_tests) in sym f
some_within (x ∷ xs) (suc i) = let f : nat_lt (suc i) (suc (length xs)) ≡ nat_lt i (length xs) = grind (arith, nat_tests) in rw f (some_within xs i)
