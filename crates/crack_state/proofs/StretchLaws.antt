-- The rows of a stretch of the column: place by place, and once the range is settled.
use Rattle.std.proofs.Common.{◌≡◌, ℕ, suc, ◌<◌, ◌≤◌, List, [], ◌∷◌, map, refl, ap, inl, inr, arith, ◌+◌, ◌+ℤ◌, ◌++◌, filter, length, get_or, Option, Some, None, sym, ◌∙◌}
use Rattle.std.specs.List.{All, AllPairs, Contains, cons_option, filter_map, between}
use Rattle.std.specs.List.Sorted.{IsPermutation, IsNonDecreasingBy}
use Rattle.std.proofs.lemmas.List.Elements.{All-cons, All-head, All-tail, All-contains, filter_map-append}
use Rattle.std.proofs.lemmas.List.Sorted.{IsPermutation-sym, Contains-permutation, IsPermutation-trans}
use Rattle.crack_row.proofs.Lists.{Contains-either, IsPermutation-filter}
use Rattle.crack_row.specs.declared.Row.{Row}
use Rattle.crack_arena.specs.Arena.{times, Cell, Handle, no_handle, read}
use Rattle.crack_arena.proofs.Times.{times-nil, times-cons, times_one, times_other, times_head, times-map-IsPermutation, times_map_at}
use Rattle.crack_state.specs.Stretch.{serial_of, rows_within, stretch_rows}
use Rattle.std.proofs.lemmas.List.Edits.{between_more}
use Rattle.std.proofs.lemmas.List.Kept.{AllPairs-filter}
use Rattle.crack_row.specs.Ranges.{Range, in_range}
use Rattle.crack_row.specs.Rows.{amount, total_by, sum_of}
use Rattle.crack_row.proofs.Totals.{total_by-cons, total_by-permutation}
use Rattle.std.proofs.lemmas.Int.{ints}
use Rattle.crack_arena.specs.Rows.{amount_at, amount_of_row}
use Rattle.crack_state.specs.State.{State, live_rows}
use Rattle.crack_state.specs.Merge.{IsSettled}

-- each serial rises strictly to all later ones
abbrev pub AreRising : List Row → Type 0
AreRising rows = AllPairs (λ (earlier later : Row). earlier.serial.0 < later.serial.0) rows

rising_head : (row : Row) (rows : List Row) → AreRising (row ∷ rows) → All (λ (r : Row). row.serial.0 < r.serial.0) rows
rising_head row rows rising = λ k d h. rising 0 (suc k) d (omega arith) (omega (arith, h))

-- a serial below all isn't there, and that of an element is
below_none : (n : ℕ) (rows : List Row) → All (λ (r : Row). n < r.serial.0) rows → times n (map serial_of rows) ≡ 0
below_none n [] below = times-nil n
below_none n (r ∷ rows) below =
    let first = All-head (λ (r : Row). n < r.serial.0) r rows below in
    let rest = below_none n rows (All-tail (λ (r : Row). n < r.serial.0) r rows below) in
    omega (arith, times-cons n (serial_of r) (map serial_of rows), times_one n (serial_of r), times_other n (serial_of r) (λ e. absurd (omega (arith, e, first))), rest)

listed_serial : (rows : List Row) (r : Row) → Contains rows r → 0 < times (serial_of r) (map serial_of rows)
listed_serial rows r there = times_map_at (serial_of r) serial_of rows there.0 r there.1 (ap serial_of there.2)

-- a list whose serials don't fall is the one with the same rows whose serials rise
same_sorted : (xs ys : List Row) → IsNonDecreasingBy serial_of xs → AreRising ys → ((n : ℕ) → times n (map serial_of xs) ≡ times n (map serial_of ys)) → ((r : Row) → Contains xs r → Contains ys r) → xs ≡ ys
same_sorted [] [] sorted rising counts among = refl
same_sorted [] (y ∷ ys) sorted rising counts among = absurd (omega (arith, counts (serial_of y), times-nil (serial_of y), times_head (serial_of y) (map serial_of ys)))
same_sorted (x ∷ xs) [] sorted rising counts among = absurd (omega (arith, counts (serial_of x), times-nil (serial_of x), times_head (serial_of x) (map serial_of xs)))
same_sorted (x ∷ xs) (y ∷ ys) sorted rising counts among = elim (Contains-either y ys x (among x (0, omega arith, refl))) [
  | inl e ↦
      let same : serial_of x ≡ serial_of y = ap serial_of e in
      let rest_counts : (n : ℕ) → times n (map serial_of xs) ≡ times n (map serial_of ys) = λ n.
      let heads : times n (serial_of x ∷ []) ≡ times n (serial_of y ∷ []) = ap (λ (k : ℕ). times n (k ∷ [])) same in
      omega (arith, counts n, times-cons n (serial_of x) (map serial_of xs), times_one n (serial_of x), times-cons n (serial_of y) (map serial_of ys), times_one n (serial_of y), heads) in
      let rest = same_sorted xs ys (λ i j d less h. sorted (suc i) (suc j) d (omega (arith, less)) (omega (arith, h))) (λ i j d less h. rising (suc i) (suc j) d (omega (arith, less)) (omega (arith, h))) rest_counts (λ r there. elim (Contains-either y ys r (among r (suc there.0, omega (arith, there.1), there.2))) [
        | inl again ↦
            let one : serial_of r ≡ serial_of y = ap serial_of again in
            let more = listed_serial xs r there in
            absurd (omega (arith, rw one at more, rest_counts (serial_of y), below_none (serial_of y) ys (rising_head y ys rising)))
        | inr later ↦ later
      ]) in
      cc
  | inr later ↦
      let above : serial_of y < serial_of x = All-contains (λ (r : Row). y.serial.0 < r.serial.0) ys x (rising_head y ys rising) later in
      let xs_above : All (λ (r : Row). y.serial.0 < r.serial.0) (x ∷ xs) = All-cons (λ (r : Row). y.serial.0 < r.serial.0) x xs above (λ k d h. omega (arith, above, sorted 0 (suc k) d (omega arith) (omega (arith, h)))) in
      absurd (omega (arith, counts (serial_of y), times_head (serial_of y) (map serial_of ys), below_none (serial_of y) (x ∷ xs) xs_above))
]

-- the sorted list of rows whose serials differ is one
pub sorted_is : (xs ys : List Row) → IsNonDecreasingBy serial_of xs → AreRising ys → IsPermutation ys xs → xs ≡ ys
sorted_is xs ys sorted rising same =
    same_sorted xs ys sorted rising (λ n. times-map-IsPermutation n serial_of ys xs same) (λ r there. Contains-permutation xs ys r (IsPermutation-sym ys xs same) there)

-- one more place
pub rows_within-more : (s : State) (from place : ℕ) (row : Row) → from ≤ place → place < length s.column → read s.cells (get_or s.column place no_handle) ≡ Some row → rows_within s from (place + 1) ≡ rows_within s from place ++ row ∷ []
rows_within-more s from place row order within reads =
    let h = get_or s.column place no_handle in
    let last : filter_map (read s.cells) (h ∷ []) ≡ row ∷ [] = rw reads refl in
    ap (filter_map (read s.cells)) (between_more s.column from place no_handle order within) ∙ filter_map-append (read s.cells) (between from place s.column) (h ∷ []) ∙ ap (λ rows. rows_within s from place ++ rows) last

-- the sum of their payloads, by handles
pub sum-payloads : (cells : List (Cell Row)) (hs : List Handle) → sum_of (filter_map (read cells) hs) ≡ total_by (amount_at cells) hs
sum-payloads cells [] = refl
sum-payloads cells (h ∷ hs) = by_value (read cells h) (sum-payloads cells hs) ∙ sym (total_by-cons (amount_at cells) h hs)
  where
    by_value : (o : Option Row) → sum_of (filter_map (read cells) hs) ≡ total_by (amount_at cells) hs → sum_of (cons_option o (filter_map (read cells) hs)) ≡ amount_of_row o +ℤ total_by (amount_at cells) hs
    by_value None rest = omega (arith, ints, rest)
    by_value (Some row) rest = omega (arith, ints, total_by-cons (λ (r : Row). amount r.payload) row (filter_map (read cells) hs), rest)

-- a settled stretch has the rows of the range, of any list of the live rows
pub stretch-settled : (s : State) (r : Range) (plain : List Row) → IsSettled s r → IsPermutation (live_rows s) plain → IsPermutation (filter (in_range r) plain) (stretch_rows s r)
stretch-settled s r plain settled same =
    IsPermutation-trans (filter (in_range r) plain) (filter (in_range r) (live_rows s)) (stretch_rows s r) (IsPermutation-filter (in_range r) plain (live_rows s) (IsPermutation-sym (live_rows s) plain same)) settled.holds

-- so its sum is theirs
pub sum-settled : (s : State) (r : Range) (plain : List Row) → IsSettled s r → IsPermutation (live_rows s) plain → sum_of (stretch_rows s r) ≡ sum_of (filter (in_range r) plain)
sum-settled s r plain settled same = total_by-permutation (λ (row : Row). amount row.payload) (filter (in_range r) plain) (stretch_rows s r) (stretch-settled s r plain settled same)

-- and its rows, by rising serial, are theirs, if those are in order of rising serials
pub rows-settled : (s : State) (r : Range) (plain rows : List Row) → IsSettled s r → IsPermutation (live_rows s) plain → AreRising plain → IsPermutation (stretch_rows s r) rows → IsNonDecreasingBy serial_of rows → rows ≡ filter (in_range r) plain
rows-settled s r plain rows settled same rising listed sorted =
    let kept : AreRising (filter (in_range r) plain) = AllPairs-filter (λ (earlier later : Row). earlier.serial.0 < later.serial.0) (in_range r) plain rising in
    sorted_is rows (filter (in_range r) plain) sorted kept (IsPermutation-trans (filter (in_range r) plain) (stretch_rows s r) rows (stretch-settled s r plain settled same) listed)
