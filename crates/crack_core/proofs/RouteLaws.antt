-- What follows from splits that rise, and of the partitions that a range meets.
use Rattle.std.specs.Prelude.{◌≡◌, ℕ, ◌+◌, ◌-◌, ◌<◌, ◌≤◌, ◌⊎◌, Bool, true, false, cond, nat_lt, nat_le, List, [], ◌∷◌, ◌++◌, length, map, filter, get_or, count_by}
use Rattle.std.specs.List.{range_with_len, AllWithin}
use Rattle.std.specs.List.Sorted.{IsNonDecreasingBy}
use Rattle.std.proofs.Common.{zero, suc, min, max, arith, ap, refl, subst, ◌∙◌, inl, inr, append-nil, length-append}
use Rattle.std.proofs.lemmas.Bool.{and_parts, ltb-true, lt-ltb, le-ltb, leb-true, leb-false, lt-leb, cases_lt}
use Rattle.std.proofs.lemmas.List.{get_or_default, length-map}
use Rattle.std.proofs.lemmas.List.FromFn.{filter_of_map_range_with_len_more}
use Rattle.std.proofs.lemmas.List.Sums.{count_by-le-length, sum_by-append}
use Rattle.crack_row.specs.Ranges.{Range, IsIn, clipped}
use Rattle.crack_row.specs.declared.TheConstants.{GREATEST_BOUND}
use Rattle.crack_row.specs.declared.Bound.{Bound}
use Rattle.crack_core.specs.Routes.{is_rising, AreSplits, keys_of_part, route, part_at, has_keys, parts_of}

-- no splits
pub AreSplits-nil : AreSplits []
AreSplits-nil = record { rising = refl; few = omega arith }

-- the numbers of splits
abbrev numbers : List Bound → List ℕ
numbers splits = map (λ (b : Bound). b.0) splits

rising-cons : (low : ℕ) (split : Bound) (splits : List Bound) → is_rising low (split ∷ splits) ≡ true → (low < split.0) × (split.0 < GREATEST_BOUND) × (is_rising split.0 splits ≡ true)
rising-cons low split splits rising =
    let first = and_parts (nat_lt low split.0) _ rising in
    let second = and_parts (nat_lt split.0 GREATEST_BOUND) _ first.1 in
    (ltb-true low split.0 first.0, ltb-true split.0 GREATEST_BOUND second.0, second.1)

-- each split is above the number that all are above
rising-at : (low : ℕ) (splits : List Bound) (part d : ℕ) → is_rising low splits ≡ true → part < length splits → low < get_or (numbers splits) part d
rising-at low [] part d rising within = absurd (omega (arith, within))
rising-at low (split ∷ splits) zero d rising within = (rising-cons low split splits rising).0
rising-at low (split ∷ splits) (suc part) d rising within =
    let now = rising-cons low split splits rising in
    let later = rising-at split.0 splits part d now.2 (omega (arith, within)) in
    omega (arith, now.0, later)

-- one more split
count-cons : (p : Bound → Bool) (split : Bound) (splits : List Bound) (b : Bool) → p split ≡ b → count_by p (split ∷ splits) ≡ cond b 1 0 + count_by p splits
count-cons p split splits b is =
    let one = sum_by-append (λ (x : Bound). cond (p x) 1 0) (split ∷ []) splits in
    let now : count_by p (split ∷ splits) ≡ cond (p split) 1 0 + count_by p splits = omega (arith, one) in
    now ∙ ap (λ (c : Bool). cond c 1 0 + count_by p splits) is

route-cons : (n : ℕ) (split : Bound) (splits : List Bound) (b : Bool) → nat_le split.0 n ≡ b → route (split ∷ splits) n ≡ cond b 1 0 + route splits n
route-cons n split splits b is = count-cons (λ (x : Bound). nat_le x.0 n) split splits b is

-- no split is at or below a number that all are above
route-none : (n low : ℕ) (splits : List Bound) → is_rising low splits ≡ true → n ≤ low → route splits n ≡ 0
route-none n low [] rising below = refl
route-none n low (split ∷ splits) rising below =
    let now = rising-cons low split splits rising in
    let later = route-none n split.0 splits now.2 (omega (arith, now.0, below)) in
    let one = route-cons n split splits false (lt-leb split.0 n (omega (arith, now.0, below))) in
    omega (arith, later, one)

-- the keys of a partition begin below where they end
low-lt-high : (low : ℕ) (splits : List Bound) (part : ℕ) → is_rising low splits ≡ true → low < GREATEST_BOUND → part ≤ length splits → get_or (low ∷ numbers splits) part 0 < get_or (numbers splits) part GREATEST_BOUND
low-lt-high low [] zero rising below within = below
low-lt-high low [] (suc part) rising below within = absurd (omega (arith, within))
low-lt-high low (split ∷ splits) zero rising below within = (rising-cons low split splits rising).0
low-lt-high low (split ∷ splits) (suc part) rising below within =
    let now = rising-cons low split splits rising in
    low-lt-high split.0 splits part now.2 now.1 (omega (arith, within))

-- up to the partition in which a number falls, keys begin at or below it
low-le : (n low : ℕ) (splits : List Bound) (part d : ℕ) → is_rising low splits ≡ true → low ≤ n → part ≤ route splits n → get_or (low ∷ numbers splits) part d ≤ n
low-le n low splits zero d rising below within = below
low-le n low [] (suc part) d rising below within = absurd (omega (arith, within))
low-le n low (split ∷ splits) (suc part) d rising below within = by_test (nat_le split.0 n) refl (λ le more. low-le n split.0 splits part d now.2 le more)
  where
    now : (low < split.0) × (split.0 < GREATEST_BOUND) × (is_rising split.0 splits ≡ true)
    now = rising-cons low split splits rising

    by_test : (b : Bool) → nat_le split.0 n ≡ b → (split.0 ≤ n → part ≤ route splits n → get_or (split.0 ∷ numbers splits) part d ≤ n) → get_or (split.0 ∷ numbers splits) part d ≤ n
    by_test true is later = later (leb-true split.0 n is) (omega (arith, within, route-cons n split splits true is))
    by_test false is later =
        let none = route-none n split.0 splits now.2 (omega (arith, leb-false split.0 n is)) in
        absurd (omega (arith, within, route-cons n split splits false is, none))

-- from the partition on in which a number falls, keys end above it
high-gt : (n low : ℕ) (splits : List Bound) (part : ℕ) → is_rising low splits ≡ true → n < GREATEST_BOUND → route splits n ≤ part → n < get_or (numbers splits) part GREATEST_BOUND
high-gt n low [] part rising below within = below
high-gt n low (split ∷ splits) part rising below within = by_test (nat_le split.0 n) refl part within (λ p more. high-gt n split.0 splits p now.2 below more)
  where
    now : (low < split.0) × (split.0 < GREATEST_BOUND) × (is_rising split.0 splits ≡ true)
    now = rising-cons low split splits rising

    by_test : (b : Bool) → nat_le split.0 n ≡ b → (p : ℕ) → route (split ∷ splits) n ≤ p → ((q : ℕ) → route splits n ≤ q → n < get_or (numbers splits) q GREATEST_BOUND) → n < get_or (split.0 ∷ numbers splits) p GREATEST_BOUND
    by_test true is zero within later = absurd (omega (arith, within, route-cons n split splits true is))
    by_test true is (suc p) within later = later p (omega (arith, within, route-cons n split splits true is))
    by_test false is zero within later = leb-false split.0 n is
    by_test false is (suc p) within later =
        let none = route-none n split.0 splits now.2 (omega (arith, leb-false split.0 n is)) in
        later p (omega (arith, none))

-- each split is above the number that all are above
split-gt : (low : ℕ) (splits : List Bound) (part : ℕ) (d : Bound) → is_rising low splits ≡ true → part < length splits → low < (get_or splits part d).0
split-gt low [] part d rising within = absurd (omega (arith, within))
split-gt low (split ∷ splits) zero d rising within = (rising-cons low split splits rising).0
split-gt low (split ∷ splits) (suc part) d rising within =
    let now = rising-cons low split splits rising in
    let later = split-gt split.0 splits part d now.2 (omega (arith, within)) in
    omega (arith, now.0, later)

-- splits that rise are in order
pub sorted-rising : (low : ℕ) (splits : List Bound) → is_rising low splits ≡ true → IsNonDecreasingBy (λ (b : Bound). b.0) splits
sorted-rising low [] rising = λ i j d i_le_j j_lt. absurd (omega (arith, j_lt))
sorted-rising low (split ∷ splits) rising = λ i j d i_le_j j_lt. at (sorted-rising split.0 splits now.2) i j d i_le_j j_lt
  where
    now : (low < split.0) × (split.0 < GREATEST_BOUND) × (is_rising split.0 splits ≡ true)
    now = rising-cons low split splits rising

    at : IsNonDecreasingBy (λ (b : Bound). b.0) splits → (i j : ℕ) (d : Bound) → i ≤ j → j < length (split ∷ splits) → (get_or (split ∷ splits) i d).0 ≤ (get_or (split ∷ splits) j d).0
    at later zero zero d i_le_j j_lt = omega arith
    at later zero (suc j) d i_le_j j_lt = let above = split-gt split.0 splits j d now.2 (omega (arith, j_lt)) in omega (arith, above)
    at later (suc i) zero d i_le_j j_lt = absurd (omega (arith, i_le_j))
    at later (suc i) (suc j) d i_le_j j_lt = later i j d (omega (arith, i_le_j)) (omega (arith, j_lt))

-- if those that pass a test are first, the place after them is how many there are
pub count-point : (p : Bound → Bool) (splits : List Bound) (place : ℕ) → place ≤ length splits → AllWithin (λ (b : Bound). p b ≡ true) splits 0 place → AllWithin (λ (b : Bound). p b ≡ false) splits place (length splits) → place ≡ count_by p splits
count-point p [] place within pass fail = omega (arith, within)
count-point p (split ∷ splits) zero within pass fail =
    let later = count-point p splits zero (omega arith) (λ k d low high. absurd (omega (arith, high))) (λ k d low high. fail (suc k) d (omega arith) (omega (arith, high))) in
    let one = count-cons p split splits false (fail 0 split (omega arith) (omega arith)) in
    omega (arith, later, one)
count-point p (split ∷ splits) (suc place) within pass fail =
    let later = count-point p splits place (omega (arith, within)) (λ k d low high. pass (suc k) d (omega arith) (omega (arith, high))) (λ k d low high. fail (suc k) d (omega (arith, low)) (omega (arith, high))) in
    let one = count-cons p split splits true (pass 0 split (omega arith) (omega arith)) in
    omega (arith, later, one)

-- there are at most as many splits at or below a number as splits
pub route-le : (splits : List Bound) (n : ℕ) → route splits n ≤ length splits
route-le splits n = count_by-le-length (λ (split : Bound). nat_le split.0 n) splits

-- the partition in which a number falls has it among its keys
pub within-route : (splits : List Bound) (n : ℕ) → AreSplits splits → n < GREATEST_BOUND → IsIn (keys_of_part splits (route splits n)) n
within-route splits n are below =
    let front = low-le n 0 splits (route splits n) 0 are.rising (omega arith) (omega arith) in
    let back = high-gt n 0 splits (route splits n) are.rising below (omega arith) in
    (front, back)

-- keys of a partition begin below where they end, and end at the greatest bound at most
pub ends-ordered : (splits : List Bound) (part : ℕ) → AreSplits splits → part ≤ length splits → (keys_of_part splits part).low < (keys_of_part splits part).high
ends-ordered splits part are within = low-lt-high 0 splits part are.rising (omega arith) within

high-le : (low : ℕ) (splits : List Bound) (part : ℕ) → is_rising low splits ≡ true → get_or (numbers splits) part GREATEST_BOUND ≤ GREATEST_BOUND
high-le low [] part rising = omega arith
high-le low (split ∷ splits) zero rising = let now = rising-cons low split splits rising in omega (arith, now.1)
high-le low (split ∷ splits) (suc part) rising = high-le split.0 splits part (rising-cons low split splits rising).2

pub ends-bounded : (splits : List Bound) (part : ℕ) → AreSplits splits → (keys_of_part splits part).high ≤ GREATEST_BOUND
ends-bounded splits part are = high-le 0 splits part are.rising

-- a partition before the one in which a number falls ends at or below the number
pub high-before : (splits : List Bound) (n part : ℕ) → AreSplits splits → part < route splits n → (keys_of_part splits part).high ≤ n
high-before splits n part are before =
    let within = route-le splits n in
    low-le n 0 splits (suc part) GREATEST_BOUND are.rising (omega arith) (omega (arith, before))

-- a partition after the one in which a number falls begins above the number
pub low-behind : (splits : List Bound) (n part : ℕ) → AreSplits splits → n < GREATEST_BOUND → route splits n < part → part ≤ length splits → n < (keys_of_part splits part).low
low-behind splits n zero are below behind within = absurd (omega (arith, behind))
low-behind splits n (suc part) are below behind within =
    let above = high-gt n 0 splits part are.rising below (omega (arith, behind)) in
    let long = length-map splits (λ (b : Bound). b.0) in
    subst (λ (end : ℕ). n < end) (get_or_default (numbers splits) part GREATEST_BOUND 0 (omega (arith, long, within))) above

-- a partition from the one on in which a number falls ends above it
pub high-behind : (splits : List Bound) (n part : ℕ) → AreSplits splits → n < GREATEST_BOUND → route splits n ≤ part → n < (keys_of_part splits part).high
high-behind splits n part are below behind = high-gt n 0 splits part are.rising below behind

-- a partition up to the one in which a number falls begins at or below it
pub low-before : (splits : List Bound) (n part : ℕ) → AreSplits splits → part ≤ route splits n → (keys_of_part splits part).low ≤ n
low-before splits n part are before = low-le n 0 splits part 0 are.rising (omega arith) before

-- whether a range has keys of others is whether their ends leave room
clipped-has : (r s : Range) → nat_lt (clipped r s).low (clipped r s).high ≡ nat_lt (max r.low s.low) (min r.high s.high)
clipped-has r s = by_test (nat_lt (max r.low s.low) (min r.high s.high)) refl
  where
    by_test : (b : Bool) → nat_lt (max r.low s.low) (min r.high s.high) ≡ b → nat_lt (cond b (max r.low s.low) s.low) (cond b (min r.high s.high) s.low) ≡ b
    by_test true is = is
    by_test false is = le-ltb s.low s.low (omega arith)

-- a partition before the first that a range meets, or after the last, has no keys of it
pub part-none : (splits : List Bound) (r : Range) (part : ℕ) → AreSplits splits → r.low < r.high → r.high ≤ GREATEST_BOUND → part ≤ length splits → (part < route splits r.low) ⊎ (route splits (r.high - 1) < part) → has_keys (part_at splits r part) ≡ false
part-none splits r part are filled bounded within beside =
    let keys = keys_of_part splits part in
    clipped-has r keys ∙ le-ltb (max r.low keys.low) (min r.high keys.high) (elim beside [
      | inl before ↦ let end = high-before splits r.low part are before in omega (arith, end)
      | inr behind ↦ let begin = low-behind splits (r.high - 1) part are (omega (arith, filled, bounded)) behind within in omega (arith, begin, filled)
    ])

-- a partition from the first to the last that a range meets has keys of it
pub part-some : (splits : List Bound) (r : Range) (part : ℕ) → AreSplits splits → r.low < r.high → r.high ≤ GREATEST_BOUND → part ≤ length splits → route splits r.low ≤ part → part ≤ route splits (r.high - 1) → has_keys (part_at splits r part) ≡ true
part-some splits r part are filled bounded within from to =
    let keys = keys_of_part splits part in
    let begin = low-before splits (r.high - 1) part are to in
    let end = high-behind splits r.low part are (omega (arith, filled, bounded)) from in
    let ordered = ends-ordered splits part are within in
    clipped-has r keys ∙ lt-ltb (max r.low keys.low) (min r.high keys.high) (omega (arith, begin, end, ordered, filled))

-- the parts of a range in the partitions below a number
abbrev pub parts_below : List Bound → Range → ℕ → List (ℕ × Range)
parts_below splits r n = filter has_keys (map (part_at splits r) (range_with_len 0 n))

-- one more partition, with no keys of the range, or some
pub parts_below-none : (splits : List Bound) (r : Range) (n : ℕ) → has_keys (part_at splits r n) ≡ false → parts_below splits r (n + 1) ≡ parts_below splits r n
parts_below-none splits r n none =
    filter_of_map_range_with_len_more has_keys (part_at splits r) 0 n n (omega arith) ∙ ap (λ (b : Bool). parts_below splits r n ++ cond b (part_at splits r n ∷ []) []) none ∙ append-nil (parts_below splits r n)

pub parts_below-some : (splits : List Bound) (r : Range) (n : ℕ) → has_keys (part_at splits r n) ≡ true → parts_below splits r (n + 1) ≡ parts_below splits r n ++ part_at splits r n ∷ []
parts_below-some splits r n some =
    filter_of_map_range_with_len_more has_keys (part_at splits r) 0 n n (omega arith) ∙ ap (λ (b : Bool). parts_below splits r n ++ cond b (part_at splits r n ∷ []) []) some

-- before the first partition that a range meets there are no parts
pub parts_below-front : (splits : List Bound) (r : Range) (n : ℕ) → AreSplits splits → r.low < r.high → r.high ≤ GREATEST_BOUND → n ≤ route splits r.low → parts_below splits r n ≡ []
parts_below-front splits r zero are filled bounded before = refl
parts_below-front splits r (suc n) are filled bounded before =
    let within = route-le splits r.low in
    let none = part-none splits r n are filled bounded (omega (arith, within, before)) (inl (omega (arith, before))) in
    let one : suc n ≡ n + 1 = omega arith in
    ap (parts_below splits r) one ∙ parts_below-none splits r n none ∙ parts_below-front splits r n are filled bounded (omega (arith, before))

-- after the last partition that a range meets there are no more
pub parts_below-back : (splits : List Bound) (r : Range) (n more : ℕ) → AreSplits splits → r.low < r.high → r.high ≤ GREATEST_BOUND → n ≡ route splits (r.high - 1) + 1 → n + more ≤ length splits + 1 → parts_below splits r (n + more) ≡ parts_below splits r n
parts_below-back splits r n zero are filled bounded last within = ap (parts_below splits r) (omega arith)
parts_below-back splits r n (suc more) are filled bounded last within =
    let none = part-none splits r (n + more) are filled bounded (omega (arith, within)) (inr (omega (arith, last))) in
    let one : n + suc more ≡ (n + more) + 1 = omega arith in
    ap (parts_below splits r) one ∙ parts_below-none splits r (n + more) none ∙ parts_below-back splits r n more are filled bounded last (omega (arith, within))

-- the first partition that a range meets is at or before the last
pub first-le-last : (splits : List Bound) (r : Range) → AreSplits splits → r.low < r.high → r.high ≤ GREATEST_BOUND → route splits r.low ≤ route splits (r.high - 1)
first-le-last splits r are filled bounded = elim (cases_lt (route splits (r.high - 1)) (route splits r.low)) [
  | inl less ↦
      let within = route-le splits r.low in
      let begin = low-behind splits (r.high - 1) (route splits r.low) are (omega (arith, filled, bounded)) less within in
      let front = low-before splits r.low (route splits r.low) are (omega arith) in
      absurd (omega (arith, begin, front, filled))
  | inr le ↦ le
]

-- the parts of a range are those up to the last partition that it meets
pub parts_of-last : (splits : List Bound) (r : Range) → AreSplits splits → r.low < r.high → r.high ≤ GREATEST_BOUND → parts_of splits r ≡ parts_below splits r (route splits (r.high - 1) + 1)
parts_of-last splits r are filled bounded =
    let within = route-le splits (r.high - 1) in
    let last = route splits (r.high - 1) in
    let more = length splits - last in
    let all : length splits + 1 ≡ (last + 1) + more = omega (arith, within) in
    ap (λ (b : Bool). cond b (parts_below splits r (length splits + 1)) ((route splits r.low, r) ∷ [])) (lt-ltb r.low r.high filled)
    ∙ ap (parts_below splits r) all ∙ parts_below-back splits r (last + 1) more are filled bounded refl (omega (arith, within))

-- there are as many parts as partitions from the first to the last
pub length-parts_below : (splits : List Bound) (r : Range) (some : ℕ) → AreSplits splits → r.low < r.high → r.high ≤ GREATEST_BOUND → route splits r.low + some ≤ route splits (r.high - 1) + 1 → length (parts_below splits r (route splits r.low + some)) ≡ some
length-parts_below splits r zero are filled bounded to = ap length (parts_below-front splits r (route splits r.low + zero) are filled bounded (omega arith))
length-parts_below splits r (suc some) are filled bounded to =
    let first = route splits r.low in
    let within = route-le splits (r.high - 1) in
    let has = part-some splits r (first + some) are filled bounded (omega (arith, within, to)) (omega arith) (omega (arith, to)) in
    let one : first + suc some ≡ (first + some) + 1 = omega arith in
    let grown = ap length (ap (parts_below splits r) one ∙ parts_below-some splits r (first + some) has) in
    let long = length-append (parts_below splits r (first + some)) (part_at splits r (first + some) ∷ []) in
    let before = length-parts_below splits r some are filled bounded (omega (arith, to)) in
    grown ∙ long ∙ omega (arith, before)

pub length-parts_of : (splits : List Bound) (r : Range) → AreSplits splits → r.low < r.high → r.high ≤ GREATEST_BOUND → length (parts_of splits r) + route splits r.low ≡ route splits (r.high - 1) + 1
length-parts_of splits r are filled bounded =
    let first = route splits r.low in
    let last = route splits (r.high - 1) in
    let order = first-le-last splits r are filled bounded in
    let some = last + 1 - first in
    let to : last + 1 ≡ first + some = omega (arith, order) in
    let long = length-parts_below splits r some are filled bounded (omega (arith, order)) in
    let all = ap length (parts_of-last splits r are filled bounded) ∙ ap (λ (n : ℕ). length (parts_below splits r n)) to in
    omega (arith, all, long, order)

-- an empty range has one part
pub parts_of-empty : (splits : List Bound) (r : Range) → r.high ≤ r.low → parts_of splits r ≡ (route splits r.low, r) ∷ []
parts_of-empty splits r none = ap (λ (b : Bool). cond b (parts_below splits r (length splits + 1)) ((route splits r.low, r) ∷ [])) (le-ltb r.low r.high none)

-- a range inside the keys of others is its own part of them
clipped-inside : (r s : Range) → r.low < r.high → s.low ≤ r.low → r.high ≤ s.high → clipped r s ≡ r
clipped-inside r s filled low high =
    let below : max r.low s.low ≡ r.low = omega (arith, low) in
    let above : min r.high s.high ≡ r.high = omega (arith, high) in
    let test : nat_lt (max r.low s.low) (min r.high s.high) ≡ true = lt-ltb (max r.low s.low) (min r.high s.high) (omega (arith, filled, low, high)) in
    rw (test, below, above) refl

-- a range inside the partition of its low end has one part
pub parts_of-one : (splits : List Bound) (r : Range) → AreSplits splits → r.low < r.high → r.high ≤ GREATEST_BOUND → r.high ≤ (keys_of_part splits (route splits r.low)).high → parts_of splits r ≡ (route splits r.low, r) ∷ []
parts_of-one splits r are filled bounded inside =
    let first = route splits r.low in
    let order = first-le-last splits r are filled bounded in
    let last : route splits (r.high - 1) ≡ first = elim (cases_lt first (route splits (r.high - 1))) [
      | inl less ↦ let end = high-before splits (r.high - 1) first are less in absurd (omega (arith, end, inside, filled))
      | inr le ↦ omega (arith, le, order)
    ] in
    let within = route-le splits r.low in
    let has = part-some splits r first are filled bounded within (omega arith) (omega (arith, last)) in
    let front = low-before splits r.low first are (omega arith) in
    let part : part_at splits r first ≡ (first, r) = ap (λ (range : Range). (first, range)) (clipped-inside r (keys_of_part splits first) filled front inside) in
    parts_of-last splits r are filled bounded ∙ ap (λ (n : ℕ). parts_below splits r (n + 1)) last ∙ parts_below-some splits r first has
    ∙ ap (λ (parts : List (ℕ × Range)). parts ++ part_at splits r first ∷ []) (parts_below-front splits r first are filled bounded (omega arith))
    ∙ ap (λ (p : ℕ × Range). p ∷ []) part

-- a range that goes on after the partition of its low end has several parts
pub parts_of-several : (splits : List Bound) (r : Range) → AreSplits splits → r.low < r.high → r.high ≤ GREATEST_BOUND → (keys_of_part splits (route splits r.low)).high < r.high → 1 < length (parts_of splits r)
parts_of-several splits r are filled bounded beyond =
    let first = route splits r.low in
    let more : first < route splits (r.high - 1) = elim (cases_lt first (route splits (r.high - 1))) [
      | inl less ↦ less
      | inr le ↦ let end = high-behind splits (r.high - 1) first are (omega (arith, filled, bounded)) le in absurd (omega (arith, end, beyond))
    ] in
    let long = length-parts_of splits r are filled bounded in
    omega (arith, long, more)
