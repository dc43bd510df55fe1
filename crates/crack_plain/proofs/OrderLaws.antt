-- Rows put in the order of rising serials.
use Rattle.std.specs.Prelude.{◌≡◌, ◌≤◌, Bool, true, false, nat_lt, if◌then◌else◌, List, [], ◌∷◌, All}
use Rattle.std.specs.List.Sorted.{IsPermutation, IsNonDecreasingBy}
use Rattle.std.proofs.Common.{zero, suc, arith, refl}
use Rattle.std.proofs.lemmas.Bool.{ltb-true, ltb-false}
use Rattle.std.proofs.lemmas.List.Elements.{All-cons}
use Rattle.std.proofs.lemmas.List.Sorted.{IsPermutation-refl, IsPermutation-trans, IsPermutation-cons, IsPermutation-insert, IsNonDecreasingBy-short, All-permutation}
use Rattle.crack_row.specs.declared.Row.{Row}
use Rattle.crack_plain.specs.Plain.{put_by_serial, by_serial}

-- serials don't fall along the rows
abbrev pub AreSorted : List Row → Type 0
AreSorted rows = IsNonDecreasingBy (λ (row : Row). row.serial.0) rows

-- no row has a serial below this one
abbrev ArePast : Row → List Row → Type 0
ArePast row rows = All (λ (r : Row). row.serial.0 ≤ r.serial.0) rows

-- a row put among others is one more
IsPermutation-put : (row : Row) (rows : List Row) → IsPermutation (row ∷ rows) (put_by_serial row rows)
IsPermutation-put row [] = IsPermutation-refl (row ∷ [])
IsPermutation-put row (r ∷ rows) = by_test (nat_lt row.serial.0 r.serial.0) (IsPermutation-put row rows)
  where
    by_test : (b : Bool) → IsPermutation (row ∷ rows) (put_by_serial row rows) → IsPermutation (row ∷ r ∷ rows) (if b then row ∷ r ∷ rows else r ∷ put_by_serial row rows)
    by_test true later = IsPermutation-refl (row ∷ r ∷ rows)
    by_test false later = IsPermutation-trans (row ∷ r ∷ rows) (r ∷ row ∷ rows) (r ∷ put_by_serial row rows) (IsPermutation-insert (r ∷ rows) 1 row) (IsPermutation-cons r (row ∷ rows) (put_by_serial row rows) later)

-- the same rows, in order
pub IsPermutation-by_serial : (rows : List Row) → IsPermutation rows (by_serial rows)
IsPermutation-by_serial [] = IsPermutation-refl []
IsPermutation-by_serial (row ∷ rows) =
    IsPermutation-trans (row ∷ rows) (row ∷ by_serial rows) (put_by_serial row (by_serial rows)) (IsPermutation-cons row rows (by_serial rows) (IsPermutation-by_serial rows)) (IsPermutation-put row (by_serial rows))

-- a row before others whose serials aren't below its own
AreSorted-cons : (row : Row) (rows : List Row) → ArePast row rows → AreSorted rows → AreSorted (row ∷ rows)
AreSorted-cons row rows past sorted zero zero d order within = omega arith
AreSorted-cons row rows past sorted zero (suc j) d order within = past j d (omega (arith, within))
AreSorted-cons row rows past sorted (suc i) zero d order within = absurd (omega (arith, order))
AreSorted-cons row rows past sorted (suc i) (suc j) d order within = sorted i j d (omega (arith, order)) (omega (arith, within))

AreSorted-tail : (row : Row) (rows : List Row) → AreSorted (row ∷ rows) → AreSorted rows
AreSorted-tail row rows sorted = λ i j d order within. sorted (suc i) (suc j) d (omega (arith, order)) (omega (arith, within))

ArePast-tail : (row : Row) (rows : List Row) → AreSorted (row ∷ rows) → ArePast row rows
ArePast-tail row rows sorted = λ k d within. sorted 0 (suc k) d (omega arith) (omega (arith, within))

AreSorted-put : (row : Row) (rows : List Row) → AreSorted rows → AreSorted (put_by_serial row rows)
AreSorted-put row [] sorted = IsNonDecreasingBy-short (λ (r : Row). r.serial.0) (row ∷ []) (omega arith)
AreSorted-put row (r ∷ rows) sorted = by_test (nat_lt row.serial.0 r.serial.0) refl (AreSorted-put row rows (AreSorted-tail r rows sorted))
  where
    rest : ArePast r rows
    rest = ArePast-tail r rows sorted

    by_test : (b : Bool) → nat_lt row.serial.0 r.serial.0 ≡ b → AreSorted (put_by_serial row rows) → AreSorted (if b then row ∷ r ∷ rows else r ∷ put_by_serial row rows)
    by_test true is later =
        let less = ltb-true row.serial.0 r.serial.0 is in
        let past : ArePast row rows = λ k d within. let above = rest k d within in omega (arith, less, above) in
        AreSorted-cons row (r ∷ rows) (All-cons (λ (x : Row). row.serial.0 ≤ x.serial.0) r rows (omega (arith, less)) past) sorted
    by_test false is later =
        let more = ltb-false row.serial.0 r.serial.0 is in
        let all : ArePast r (row ∷ rows) = All-cons (λ (x : Row). r.serial.0 ≤ x.serial.0) row rows more rest in
        let past = All-permutation (λ (x : Row). r.serial.0 ≤ x.serial.0) (row ∷ rows) (put_by_serial row rows) (IsPermutation-put row rows) all in
        AreSorted-cons r (put_by_serial row rows) past later

pub AreSorted-by_serial : (rows : List Row) → AreSorted (by_serial rows)
AreSorted-by_serial [] = IsNonDecreasingBy-short (λ (r : Row). r.serial.0) [] (omega arith)
AreSorted-by_serial (row ∷ rows) = AreSorted-put row (by_serial rows) (AreSorted-by_serial rows)
