-- What changes of rows do to the sums of ranges.
use Rattle.std.proofs.Common.{◌≡◌, ◌≢◌, ℕ, ℤ, pos, ◌+ℤ◌, suc, get_or, ◌+◌, ◌<◌, ◌≤◌, ◌==◌, not, Bool, true, false, cond, List, [], ◌∷◌, ◌++◌, map, filter, Option, Some, None, arith, refl, sym, ap, ◌∙◌}
use Rattle.std.specs.Prelude.{AllPairs}
use Rattle.std.specs.List.{All, find}
use Rattle.std.specs.Bool.{Decides}
use Rattle.std.proofs.lemmas.Bool.Decides.{nat_tests, Decides-eqb}
use Rattle.std.specs.Prelude.{is_some, unwrap_or}
use Rattle.std.proofs.lemmas.Bool.{true≢false}
use Rattle.std.proofs.lemmas.Int.{ints}
use Rattle.std.proofs.lemmas.List.Elements.{All-nil, All-cons, All-head, All-tail}
use Rattle.crack_row.specs.Ranges.{Range, in_range}
use Rattle.crack_row.specs.Rows.{amount, total_by, sum_of, has_serial, is_other, replaced}
use Rattle.crack_row.specs.declared.Row.{Row}
use Rattle.crack_row.proofs.Totals.{total_by-cons, total_by-append, total_by-agree, total_by-filter}
use Rattle.crack_plain.specs.Plain.{rows_in}
use Rattle.crack_plain.proofs.Laws.{others-same, replaced-same}
use Rattle.crack_part.specs.KnownSums.{adds, sum_before, added_amount}

-- totals of a sum of numbers
total-sum : (f g h : Row → ℤ) → ((row : Row) → f row ≡ g row +ℤ h row) → (rows : List Row) → total_by f rows ≡ total_by g rows +ℤ total_by h rows
total-sum f g h each [] = omega (arith, ints)
total-sum f g h each (row ∷ rows) =
    omega (arith, ints, total_by-cons f row rows, total_by-cons g row rows, total_by-cons h row rows, each row, total-sum f g h each rows)

-- totals of nothing
total-none : (f : Row → ℤ) (rows : List Row) → All (λ row. f row ≡ pos 0) rows → total_by f rows ≡ pos 0
total-none f [] none = refl
total-none f (row ∷ rows) none =
    omega (arith, ints, total_by-cons f row rows, All-head (λ x. f x ≡ pos 0) row rows none, total-none f rows (All-tail (λ x. f x ≡ pos 0) row rows none))

-- a sum is that of two parts
adds-parts : (since low mid high : ℕ) (row : Row) → low ≤ mid → mid ≤ high → adds since (record { low = low; high = high }) row ≡ adds since (record { low = low; high = mid }) row +ℤ adds since (record { low = mid; high = high }) row
adds-parts since low mid high row first second = grind (arith, nat_tests, ints)

pub sum-parts : (since : ℕ) (rows : List Row) (low mid high : ℕ) → low ≤ mid → mid ≤ high → sum_before since rows low high ≡ sum_before since rows low mid +ℤ sum_before since rows mid high
sum-parts since rows low mid high first second =
    total-sum (adds since (record { low = low; high = high })) (adds since (record { low = low; high = mid })) (adds since (record { low = mid; high = high })) (λ row. adds-parts since low mid high row first second) rows

pub sum-nothing : (since : ℕ) (rows : List Row) (low : ℕ) → sum_before since rows low low ≡ pos 0
sum-nothing since rows low = let is = sum-parts since rows low low low (omega arith) (omega arith) in omega (arith, ints, is)

-- if all serials are below it, it is the sum of the rows of the range
pub sum-all : (since : ℕ) (range : Range) (rows : List Row) → All (λ row. row.serial.0 < since) rows → total_by (adds since range) rows ≡ sum_of (rows_in range rows)
sum-all since range rows below =
    total_by-agree (adds since range) (λ row. cond (in_range range row) (amount row.payload) (pos 0)) rows (λ k d h. each (get_or rows k d) (below k d h)) ∙ sym (total_by-filter (λ (row : Row). amount row.payload) (in_range range) rows)
  where
    each : (row : Row) → row.serial.0 < since → adds since range row ≡ cond (in_range range row) (amount row.payload) (pos 0)
    each row first = grind (arith, nat_tests, first)

-- a row with a later serial adds nothing
pub sum-placed : (since : ℕ) (rows : List Row) (row : Row) (low high : ℕ) → since ≤ row.serial.0 → sum_before since (rows ++ row ∷ []) low high ≡ sum_before since rows low high
sum-placed since rows row low high late =
    let f = adds since (record { low = low; high = high }) in
    let none : f row ≡ pos 0 = grind (arith, nat_tests, late) in
    omega (arith, ints, total_by-append f rows (row ∷ []), total_by-cons f row [], none)

-- without the row of a serial, whatever each row adds
pub total-taken : (f : Row → ℤ) (serial : ℕ) (rows : List Row) (row : Row) → AllPairs (λ (earlier later : Row). earlier.serial.0 < later.serial.0) rows → find (has_serial serial) rows ≡ Some row → total_by f rows ≡ f row +ℤ total_by f (filter (is_other serial) rows)
total-taken f serial [] row rising found = absurd (true≢false (sym (ap is_some found)))
total-taken f serial (x ∷ xs) row rising found =
    by_test (x.serial.0 == serial) refl (Decides-eqb x.serial.0 serial) (λ found. total-taken f serial xs row (λ i j d i_lt j_lt. rising (suc i) (suc j) d (omega arith) (omega arith)) found)
  where
    apart : x.serial.0 ≡ serial → All (λ (r : Row). r.serial.0 ≢ serial) xs
    apart same = λ k d l e. (let later = rising 0 (suc k) d (omega arith) (omega (arith, l)) in omega (arith, later, same, e))

    by_test : (b : Bool) → x.serial.0 == serial ≡ b → Decides b (x.serial.0 ≡ serial) → (find (has_serial serial) xs ≡ Some row → total_by f xs ≡ f row +ℤ total_by f (filter (is_other serial) xs)) → total_by f (x ∷ xs) ≡ f row +ℤ total_by f (filter (is_other serial) (x ∷ xs))
    by_test true is same rest =
        let first : x ≡ row = ap (λ (o : Option Row). unwrap_or o row) (rw is at found) in
        rw (is, others-same serial xs (apart (same.0 refl)), ← first) (total_by-cons f x xs)
    by_test false is other rest =
        let now = rest (rw is at found) in
        rw is (omega (arith, ints, total_by-cons f x xs, total_by-cons f x (filter (is_other serial) xs), now))

-- with a row in the place of the one with its serial, whatever each row adds
pub total-put : (f : Row → ℤ) (new : Row) (rows : List Row) (row : Row) → AllPairs (λ (earlier later : Row). earlier.serial.0 < later.serial.0) rows → find (has_serial new.serial.0) rows ≡ Some row → total_by f (map (replaced new) rows) +ℤ f row ≡ total_by f rows +ℤ f new
total-put f new [] row rising found = absurd (true≢false (sym (ap is_some found)))
total-put f new (x ∷ xs) row rising found =
    by_test (x.serial.0 == new.serial.0) refl (Decides-eqb x.serial.0 new.serial.0) (λ found. total-put f new xs row (λ i j d i_lt j_lt. rising (suc i) (suc j) d (omega arith) (omega arith)) found)
  where
    apart : x.serial.0 ≡ new.serial.0 → All (λ (r : Row). r.serial.0 ≢ new.serial.0) xs
    apart same = λ k d l e. (let later = rising 0 (suc k) d (omega arith) (omega (arith, l)) in omega (arith, later, same, e))

    by_test : (b : Bool) → x.serial.0 == new.serial.0 ≡ b → Decides b (x.serial.0 ≡ new.serial.0) → (find (has_serial new.serial.0) xs ≡ Some row → total_by f (map (replaced new) xs) +ℤ f row ≡ total_by f xs +ℤ f new) → total_by f (map (replaced new) (x ∷ xs)) +ℤ f row ≡ total_by f (x ∷ xs) +ℤ f new
    by_test true is same rest =
        let first : x ≡ row = ap (λ (o : Option Row). unwrap_or o row) (rw is at found) in
        rw (is, replaced-same new xs (apart (same.0 refl)), ← first) (omega (arith, ints, total_by-cons f x xs, total_by-cons f new xs))
    by_test false is other rest =
        let now = rest (rw is at found) in
        rw is (omega (arith, ints, total_by-cons f x xs, total_by-cons f x (map (replaced new) xs), now))

-- the row of a serial that a list doesn't have
pub apart-none : (serial : ℕ) (rows : List Row) → find (has_serial serial) rows ≡ None → All (λ (r : Row). r.serial.0 ≢ serial) rows
apart-none serial [] none = All-nil (λ (r : Row). r.serial.0 ≢ serial)
apart-none serial (x ∷ xs) none = by_test (x.serial.0 == serial) refl (Decides-eqb x.serial.0 serial) (λ none. apart-none serial xs none)
  where
    by_test : (b : Bool) → x.serial.0 == serial ≡ b → Decides b (x.serial.0 ≡ serial) → (find (has_serial serial) xs ≡ None → All (λ (r : Row). r.serial.0 ≢ serial) xs) → All (λ (r : Row). r.serial.0 ≢ serial) (x ∷ xs)
    by_test true is same rest = absurd (true≢false (ap is_some (rw is at none)))
    by_test false is other rest = All-cons (λ (r : Row). r.serial.0 ≢ serial) x xs (λ e. absurd (true≢false (sym (other.1 e)))) (rest (rw is at none))

-- a row that is found has the serial, and the others don't
pub found-serial : (serial : ℕ) (rows : List Row) (row : Row) → find (has_serial serial) rows ≡ Some row → row.serial.0 ≡ serial
found-serial serial [] row found = absurd (true≢false (sym (ap is_some found)))
found-serial serial (x ∷ xs) row found = by_test (x.serial.0 == serial) refl (Decides-eqb x.serial.0 serial) (λ found. found-serial serial xs row found)
  where
    by_test : (b : Bool) → x.serial.0 == serial ≡ b → Decides b (x.serial.0 ≡ serial) → (find (has_serial serial) xs ≡ Some row → row.serial.0 ≡ serial) → row.serial.0 ≡ serial
    by_test true is same rest =
        let first : x ≡ row = ap (λ (o : Option Row). unwrap_or o row) (rw is at found) in
        rw first at (same.0 refl)
    by_test false is other rest = rest (rw is at found)

others-apart : (serial : ℕ) (rows : List Row) → All (λ (r : Row). r.serial.0 ≢ serial) (filter (is_other serial) rows)
others-apart serial [] = All-nil (λ (r : Row). r.serial.0 ≢ serial)
others-apart serial (x ∷ xs) = by_test (x.serial.0 == serial) (Decides-eqb x.serial.0 serial) (others-apart serial xs)
  where
    by_test : (b : Bool) → Decides b (x.serial.0 ≡ serial) → All (λ (r : Row). r.serial.0 ≢ serial) (filter (is_other serial) xs) → All (λ (r : Row). r.serial.0 ≢ serial) (cond (not b) (x ∷ filter (is_other serial) xs) (filter (is_other serial) xs))
    by_test true same rest = rest
    by_test false other rest = All-cons (λ (r : Row). r.serial.0 ≢ serial) x (filter (is_other serial) xs) (λ e. absurd (true≢false (sym (other.1 e)))) rest

-- what a row of this serial adds to the sum of a range
abbrev adds-here : ℕ → ℕ → ℕ → Row → ℤ
adds-here serial low high row = cond (row.serial.0 == serial) (added_amount low high (Some row)) (pos 0)

adds-next : (since low high : ℕ) (row : Row) → adds (since + 1) (record { low = low; high = high }) row ≡ adds since (record { low = low; high = high }) row +ℤ adds-here since low high row
adds-next since low high row = grind (arith, nat_tests, ints)

-- up to the next serial: the row of this serial, if there is one, is added to the sum
pub sum-next : (since : ℕ) (rows : List Row) (low high : ℕ) (o : Option Row) → AllPairs (λ (earlier later : Row). earlier.serial.0 < later.serial.0) rows → find (has_serial since) rows ≡ o → sum_before (since + 1) rows low high ≡ sum_before since rows low high +ℤ added_amount low high o
sum-next since rows low high None rising none =
    let both = total-sum (adds (since + 1) (record { low = low; high = high })) (adds since (record { low = low; high = high })) (adds-here since low high) (adds-next since low high) rows in
    let apart = apart-none since rows none in
    let nothing = total-none (adds-here since low high) rows (λ k d h. not-here (get_or rows k d) (apart k d h)) in
    omega (arith, ints, both, nothing)
  where
    not-here : (row : Row) → row.serial.0 ≢ since → adds-here since low high row ≡ pos 0
    not-here row apart = grind (arith, nat_tests, apart)
sum-next since rows low high (Some row) rising found =
    let g = adds-here since low high in
    let both = total-sum (adds (since + 1) (record { low = low; high = high })) (adds since (record { low = low; high = high })) g (adds-next since low high) rows in
    let taken = total-taken g since rows row rising found in
    let apart = others-apart since rows in
    let others = filter (is_other since) rows in
    let nothing = total-none g others (λ k d h. not-here (get_or others k d) (apart k d h)) in
    let here = is-here (found-serial since rows row found) in
    omega (arith, ints, both, taken, nothing, here)
  where
    not-here : (x : Row) → x.serial.0 ≢ since → adds-here since low high x ≡ pos 0
    not-here x apart = grind (arith, nat_tests, apart)

    is-here : row.serial.0 ≡ since → adds-here since low high row ≡ added_amount low high (Some row)
    is-here same = grind (arith, nat_tests, same)
