-- Where a walk over the pieces of a range ends: at their total, or at the first whose sum isn't known.
use Rattle.std.proofs.Common.{◌≡◌, ℕ, ◌+◌, ◌<◌, ◌≤◌, List, [], ◌∷◌, Some, None, refl, sym, ap, ◌∙◌, inl, inr, arith}
use Rattle.std.specs.Prelude.{ℤ, pos, negsuc, ◌+ℤ◌, neg_ℤ, ◌≤ℤ◌, ◌^◌, unsigned_abs, true, false}
use Rattle.std.specs.Ordering.{int_eq}
use Rattle.std.proofs.lemmas.Bool.{cases_lt, cases_Bool, lt-leb, le-leb}
use Rattle.std.proofs.lemmas.Bool.Decides.{Decides-int_eq}
use Rattle.std.proofs.lemmas.Int.{ints}
use Rattle.crack_row.specs.Ranges.{IsIn}
use Rattle.crack_index.specs.declared.sums.TheConstants.{UNKNOWN}
use Rattle.crack_index.specs.Sums.{lowest_start, IsKnown, SumsAreKnown, total_in, distance_in}
use Rattle.crack_index.specs.Cuts.{StartsRise, span}
use Rattle.crack_index.specs.SumKeeps.{IsTotal, AllKnown, total_of, distance_of, inside, unknown_from}
use Rattle.crack_index.proofs.Pieces.{in_yes, in_below, in_above}

-- the number is at most this far from 0
abbrev pub IsNear : ℤ → ℕ → Type 0
IsNear number distance = (number ≤ℤ pos distance) × (neg_ℤ (pos distance) ≤ℤ number)

pub near_itself : (number : ℤ) → IsNear number (unsigned_abs number)
near_itself (pos n) = (omega (arith, ints), omega (arith, ints))
near_itself (negsuc n) = (omega (arith, ints), omega (arith, ints))

pub near_sum : (a b : ℤ) (m n : ℕ) → IsNear a m → IsNear b n → IsNear (a +ℤ b) (m + n)
near_sum a b m n is_a is_b = (let one = is_a.0 in let two = is_b.0 in omega (arith, ints), let one = is_a.1 in let two = is_b.1 in omega (arith, ints))

-- The pieces in a range

in_total : (low high : ℕ) (es : List (ℕ × ℤ)) → total_of (inside (record { low = low; high = high }) es) ≡ total_in (record { low = low; high = high }) es
in_total low high [] = refl
in_total low high (e ∷ es) = elim (cases_lt e.0 low) [
  | inl l ↦ rw (in_below low high e.0 l) (in_total low high es)
  | inr l ↦ elim (cases_lt e.0 high) [
    | inl k ↦ rw (in_yes low high e.0 l k) (ap (λ t. e.1 +ℤ t) (in_total low high es))
    | inr k ↦ rw (in_above low high e.0 k) (in_total low high es)
  ]
]

in_distance : (low high : ℕ) (es : List (ℕ × ℤ)) → distance_of (inside (record { low = low; high = high }) es) ≡ distance_in (record { low = low; high = high }) es
in_distance low high [] = refl
in_distance low high (e ∷ es) = elim (cases_lt e.0 low) [
  | inl l ↦ rw (in_below low high e.0 l) (in_distance low high es)
  | inr l ↦ elim (cases_lt e.0 high) [
    | inl k ↦ rw (in_yes low high e.0 l k) (ap (λ d. unsigned_abs e.1 + d) (in_distance low high es))
    | inr k ↦ rw (in_above low high e.0 k) (in_distance low high es)
  ]
]

in_known : (low high : ℕ) (es : List (ℕ × ℤ)) → AllKnown (inside (record { low = low; high = high }) es) → SumsAreKnown (record { low = low; high = high }) es
in_known low high [] all = tt
in_known low high (e ∷ es) all = elim (cases_lt e.0 low) [
  | inl l ↦ (λ h k. absurd (omega arith), in_known low high es (rw (in_below low high e.0 l) at all))
  | inr l ↦ elim (cases_lt e.0 high) [
    | inl k ↦ let both = rw (in_yes low high e.0 l k) at all in (λ h j. both.0, in_known low high es both.1)
    | inr k ↦ (λ h j. absurd (omega arith), in_known low high es (rw (in_above low high e.0 k) at all))
  ]
]

known_in : (low high : ℕ) (es : List (ℕ × ℤ)) → SumsAreKnown (record { low = low; high = high }) es → AllKnown (inside (record { low = low; high = high }) es)
known_in low high [] all = tt
known_in low high (e ∷ es) all = elim (cases_lt e.0 low) [
  | inl l ↦ rw (in_below low high e.0 l) (known_in low high es all.1)
  | inr l ↦ elim (cases_lt e.0 high) [
    | inl k ↦ rw (in_yes low high e.0 l k) (all.0 l k, known_in low high es all.1)
    | inr k ↦ rw (in_above low high e.0 k) (known_in low high es all.1)
  ]
]

-- The first unknown sum

known_by : (sum : ℤ) → int_eq sum UNKNOWN ≡ false → IsKnown sum
known_by sum apart = λ is. (let one : int_eq sum UNKNOWN ≡ true = rw is refl in absurd (cc))

known_none : (first high : ℕ) (es : List (ℕ × ℤ)) → unknown_from first es ≡ None → SumsAreKnown (record { low = first; high = high }) es
known_none first high [] none = tt
known_none first high (e ∷ es) none = elim (cases_lt e.0 first) [
  | inl l ↦ (λ h k. absurd (omega arith), known_none first high es (rw (lt-leb first e.0 l) at none))
  | inr l ↦ elim (cases_Bool (int_eq e.1 UNKNOWN)) [
    | inl is ↦ let one : Some e.0 ≡ None = rw (le-leb first e.0 l, is) at none in absurd (cc)
    | inr apart ↦ (λ h k. known_by e.1 apart, known_none first high es (rw (le-leb first e.0 l, apart) at none))
  ]
]

known_above : (first high : ℕ) (es : List (ℕ × ℤ)) → StartsRise es → high ≤ lowest_start es → SumsAreKnown (record { low = first; high = high }) es
known_above first high [] rises h = tt
known_above first high (e ∷ es) rises h = (λ j k. absurd (omega arith), known_above first high es rises.1 (omega (arith, rises.0)))

known_beyond : (first high start : ℕ) (es : List (ℕ × ℤ)) → StartsRise es → unknown_from first es ≡ Some start → high ≤ start → SumsAreKnown (record { low = first; high = high }) es
known_beyond first high start [] rises found h = tt
known_beyond first high start (e ∷ es) rises found h = elim (cases_lt e.0 first) [
  | inl l ↦ (λ j k. absurd (omega arith), known_beyond first high start es rises.1 (rw (lt-leb first e.0 l) at found) h)
  | inr l ↦ elim (cases_Bool (int_eq e.1 UNKNOWN)) [
    | inl is ↦
        let one : Some e.0 ≡ Some start = rw (le-leb first e.0 l, is) at found in
        let same : e.0 ≡ start = cc in
        known_above first high (e ∷ es) rises (omega arith)
    | inr apart ↦ (λ j k. known_by e.1 apart, known_beyond first high start es rises.1 (rw (le-leb first e.0 l, apart) at found) h)
  ]
]

record IsFirst (first start : ℕ) (es : List (ℕ × ℤ)) : Type 0 where
  above : first ≤ start
  unknown : (high : ℕ) → start < high → SumsAreKnown (record { low = first; high = high }) es → ⊥

unknown-is : (first start : ℕ) (es : List (ℕ × ℤ)) → unknown_from first es ≡ Some start → IsFirst first start es
unknown-is first start [] found = absurd (cc)
unknown-is first start (e ∷ es) found = elim (cases_lt e.0 first) [
  | inl l ↦
      let rest = unknown-is first start es (rw (lt-leb first e.0 l) at found) in
      record { above = rest.above; unknown = λ high k all. rest.unknown high k all.1 }
  | inr l ↦ elim (cases_Bool (int_eq e.1 UNKNOWN)) [
    | inl is ↦
        let one : Some e.0 ≡ Some start = rw (le-leb first e.0 l, is) at found in
        let same : e.0 ≡ start = cc in
        record { above = omega arith; unknown = λ high k all. all.0 l (omega arith) ((Decides-int_eq e.1 UNKNOWN).0 is) }
    | inr apart ↦
        let rest = unknown-is first start es (rw (le-leb first e.0 l, apart) at found) in
        record { above = rest.above; unknown = λ high k all. rest.unknown high k all.1 }
  ]
]

-- Where a walk ends

pub walk-whole : (first last : ℕ) (es : List (ℕ × ℤ)) (total : ℤ) → StartsRise es → IsTotal (inside (span first last) es) total → IsKnown total → (total ≡ total_in (span first last) es) × SumsAreKnown (span first last) es × StartsRise es
walk-whole first last es total rises is known =
    let both = is.right known in
    (both.1 ∙ in_total first (last + 1) es, in_known first (last + 1) es both.0, rises)

pub walk-unknown : (first last start : ℕ) (es : List (ℕ × ℤ)) → Some start ≡ unknown_from first es → start ≤ last → IsIn (span first last) start × (SumsAreKnown (span first last) es → ⊥)
walk-unknown first last start es found h =
    let is = unknown-is first start es (sym found) in
    ((is.above, omega arith), is.unknown (last + 1) (omega arith))

far : (first last : ℕ) (es : List (ℕ × ℤ)) (total : ℤ) → IsTotal (inside (span first last) es) total → total ≡ UNKNOWN → SumsAreKnown (span first last) es → distance_in (span first last) es < 2 ^ 127 → ⊥
far first last es total is unknown known few =
    let whole = in_distance first (last + 1) es in
    is.found (known_in first (last + 1) es known) (omega arith) unknown

pub walk-none : (first last : ℕ) (es : List (ℕ × ℤ)) (total : ℤ) → IsTotal (inside (span first last) es) total → total ≡ UNKNOWN → None ≡ unknown_from first es → distance_in (span first last) es < 2 ^ 127 → ⊥
walk-none first last es total is unknown none = far first last es total is unknown (known_none first (last + 1) es (sym none))

pub walk-beyond : (first last start : ℕ) (es : List (ℕ × ℤ)) (total : ℤ) → StartsRise es → IsTotal (inside (span first last) es) total → total ≡ UNKNOWN → Some start ≡ unknown_from first es → last < start → distance_in (span first last) es < 2 ^ 127 → ⊥
walk-beyond first last start es total rises is unknown found h = far first last es total is unknown (known_beyond first (last + 1) start es rises (sym found) (omega arith))
