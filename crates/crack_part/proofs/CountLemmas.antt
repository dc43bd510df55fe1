-- What a read of a range within a partition's keys implies for the plain rows.
use Rattle.std.proofs.Common.{◌≡◌, ℕ, ◌<◌, ◌≤◌, ◌-◌, List, [], ◌∷◌, Bool, false, cond, Some, None, Result, Ok, Err, IfOk, arith, refl, sym, ap, ◌∙◌}
use Rattle.std.specs.List.{All, count_by, filter}
use Rattle.std.specs.List.Sorted.{IsPermutation, IsNonDecreasingBy}
use Rattle.std.proofs.lemmas.Bool.Decides.{nat_tests}
use Rattle.std.proofs.lemmas.List.Elements.{All-head, All-tail}
use Rattle.std.proofs.lemmas.List.Sorted.{All-permutation, IsPermutation-sym, IsPermutation-trans}
use Rattle.std.proofs.lemmas.List.Sums.{sum_by-cons}
use Rattle.crack_row.specs.Ranges.{Range, IsIn, is_in, in_range, clipped}
use Rattle.crack_row.specs.Rows.{sum_of}
use Rattle.crack_row.specs.declared.Row.{Row}
use Rattle.crack_plain.specs.Plain.{PlainState, IsNumbered, rows_in}
use Rattle.crack_state.specs.State.{State, live_rows, IsIntact}
use Rattle.crack_state.specs.Merge.{IsSettled, edge}
use Rattle.crack_state.specs.Stretch.{stretch_rows, serial_of}
use Rattle.crack_part.specs.Inside.{IsCommon}
use Rattle.crack_state.proofs.SettledLaws.{count-settled}
use Rattle.crack_state.proofs.StretchLaws.{sum-settled, rows-settled}
use Rattle.crack_state.proofs.LiveLaws.{live_rows-within}

-- a range and its intersection with these keys have the same keys of them
is_in-clipped : (r keys : Range) (k : ℕ) → IsIn keys k → is_in (clipped r keys) k ≡ is_in r k
is_in-clipped r keys k within = grind (arith, nat_tests)

count-clipped : (r keys : Range) (rows : List Row) → All (λ (row : Row). IsIn keys row.key.0) rows → count_by (in_range (clipped r keys)) rows ≡ count_by (in_range r) rows
count-clipped r keys [] within = refl
count-clipped r keys (row ∷ rows) within =
    let one : Bool → ℕ = λ b. cond b 1 0 in
    let now : one (in_range (clipped r keys) row) ≡ one (in_range r row) = ap one (is_in-clipped r keys row.key.0 (All-head (λ (row : Row). IsIn keys row.key.0) row rows within)) in
    let rest = count-clipped r keys rows (All-tail (λ (row : Row). IsIn keys row.key.0) row rows within) in
    omega (arith, sum_by-cons (λ (x : Row). one (in_range (clipped r keys) x)) row rows, sum_by-cons (λ (x : Row). one (in_range r x)) row rows, now, rest)

is_in-empty : (r : Range) (k : ℕ) → r.high ≤ r.low → is_in r k ≡ false
is_in-empty r k empty = grind (arith, nat_tests)

count-empty : (r : Range) (rows : List Row) → r.high ≤ r.low → count_by (in_range r) rows ≡ 0
count-empty r [] empty = refl
count-empty r (row ∷ rows) empty =
    let one : Bool → ℕ = λ b. cond b 1 0 in
    let now : one (in_range r row) ≡ 0 = ap one (is_in-empty r row.key.0 empty) in
    omega (arith, sum_by-cons (λ (x : Row). one (in_range r x)) row rows, now, count-empty r rows empty)

plain-within : (s : State) (plain : List Row) → IsIntact s [] → IsPermutation (live_rows s) plain → All (λ (r : Row). IsIn s.keys r.key.0) plain
plain-within s plain intact same = All-permutation (λ (r : Row). IsIn s.keys r.key.0) (live_rows s) plain same (live_rows-within s intact)

-- if no key is in the range, no row is
pub count-none : (s : State) (r : Range) (plain : List Row) → IsCommon r s.keys None → IsIntact s [] → IsPermutation (live_rows s) plain → 0 ≡ count_by (in_range r) plain
count-none s r plain empty intact same = sym (count-empty (clipped r s.keys) plain empty) ∙ count-clipped r s.keys plain (plain-within s plain intact same)

-- in a settled store the places of the intersection's ends count the plain rows
pub count-places : (s : State) (r common : Range) (plain : List Row) → IsCommon r s.keys (Some common) → IsIntact s [] → IsSettled s common → IsPermutation (live_rows s) plain → edge s common.high - edge s common.low ≡ count_by (in_range r) plain
count-places s r common plain is intact settled same =
    count-settled s common plain settled same ∙ ap (λ (c : Range). count_by (in_range c) plain) is.0 ∙ count-clipped r s.keys plain (plain-within s plain intact same)

-- the rows of a range are those of its intersection with the keys
step : (row : Row) (b c : Bool) (xs ys : List Row) → b ≡ c → xs ≡ ys → cond b (row ∷ xs) xs ≡ cond c (row ∷ ys) ys
step row b c xs ys e f = rw (e, f) refl

rows-clipped : (r keys : Range) (rows : List Row) → All (λ (row : Row). IsIn keys row.key.0) rows → rows_in (clipped r keys) rows ≡ rows_in r rows
rows-clipped r keys [] within = refl
rows-clipped r keys (row ∷ rows) within =
    let now = is_in-clipped r keys row.key.0 (All-head (λ (row : Row). IsIn keys row.key.0) row rows within) in
    step row (in_range (clipped r keys) row) (in_range r row) (rows_in (clipped r keys) rows) (rows_in r rows) now (rows-clipped r keys rows (All-tail (λ (row : Row). IsIn keys row.key.0) row rows within))

rows-empty : (r : Range) (rows : List Row) → r.high ≤ r.low → rows_in r rows ≡ []
rows-empty r [] empty = refl
rows-empty r (row ∷ rows) empty = step row (in_range r row) false (rows_in r rows) [] (is_in-empty r row.key.0 empty) (rows-empty r rows empty)

-- if no key is in the range, no row is listed
pub rows-none : (s : State) (r : Range) (plain : List Row) → IsCommon r s.keys None → IsIntact s [] → IsPermutation (live_rows s) plain → rows_in r plain ≡ []
rows-none s r plain empty intact same = sym (rows-clipped r s.keys plain (plain-within s plain intact same)) ∙ rows-empty (clipped r s.keys) plain empty

-- in a settled store the rows between the places of the intersection's ends have the plain rows' sum
pub sum-places : (s : State) (r common : Range) (plain : List Row) → IsCommon r s.keys (Some common) → IsIntact s [] → IsSettled s common → IsPermutation (live_rows s) plain → sum_of (stretch_rows s common) ≡ sum_of (rows_in r plain)
sum-places s r common plain is intact settled same =
    let clips = rows-clipped r s.keys plain (plain-within s plain intact same) in
    sum-settled s common plain settled same ∙ ap (λ (c : Range). sum_of (rows_in c plain)) is.0 ∙ ap sum_of clips

-- and, by rising serial, they are the plain rows
rows-places : (s : State) (r common : Range) (plain : PlainState) (listed : List Row) → IsCommon r s.keys (Some common) → IsIntact s [] → IsSettled s common → IsNumbered plain → IsPermutation (live_rows s) plain.rows → IsPermutation (stretch_rows s common) listed → IsNonDecreasingBy serial_of listed → listed ≡ rows_in r plain.rows
rows-places s r common plain listed is intact settled numbered same holds rising =
    let clips = rows-clipped r s.keys plain.rows (plain-within s plain.rows intact same) in
    rows-settled s common plain.rows listed settled same numbered.rising holds rising ∙ ap (λ (c : Range). rows_in c plain.rows) is.0 ∙ clips

pub rows-answered : {V E : Type 0} (items : V → List Row) (told : Result V E) (s : State) (common : Range) → IsIntact s [] → IsSettled s common → IfOk told (λ v. IsPermutation (stretch_rows s common) (items v)) → IfOk told (λ v. IsNonDecreasingBy serial_of (items v)) → IfOk told (λ v. (r : Range) → IsCommon r s.keys (Some common) → (plain : PlainState) → IsNumbered plain → IsPermutation (live_rows s) plain.rows → items v ≡ rows_in r plain.rows)
rows-answered items (Ok v) s common intact settled holds rising = λ r is plain numbered same. rows-places s r common plain (items v) is intact settled numbered same holds rising
rows-answered items (Err e) s common intact settled holds rising = tt

-- a list of all live rows of a settled range has the rows between the places of its ends
pub rows-walked : {V E : Type 0} (items : V → List Row) (told : Result V E) (s : State) (r : Range) → IsSettled s r → IfOk told (λ v. IsPermutation (filter (in_range r) (live_rows s)) (items v)) → IfOk told (λ v. IsPermutation (stretch_rows s r) (items v))
rows-walked items (Ok v) s r settled holds =
    let live = filter (in_range r) (live_rows s) in
    IsPermutation-trans (stretch_rows s r) live (items v) (IsPermutation-sym live (stretch_rows s r) settled.holds) holds
rows-walked items (Err e) s r settled holds = tt

-- the intersection of a range with keys lies in them
pub within-clipped : (r keys common : Range) → common ≡ clipped r keys → common.low < common.high → (keys.low ≤ common.low) × (common.high ≤ keys.high)
within-clipped r keys common is filled = (grind (arith, nat_tests, is, filled), grind (arith, nat_tests, is, filled))

-- the rows of the intersection of a range with the keys have the sum of the range's rows
pub sum-common : (s : State) (r common : Range) (plain : List Row) → IsCommon r s.keys (Some common) → IsIntact s [] → IsPermutation (live_rows s) plain → sum_of (rows_in common plain) ≡ sum_of (rows_in r plain)
sum-common s r common plain is intact same =
    ap (λ (c : Range). sum_of (rows_in c plain)) is.0 ∙ ap sum_of (rows-clipped r s.keys plain (plain-within s plain intact same))
