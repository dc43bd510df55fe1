-- The total of the pieces in a range.
use Rattle.std.proofs.Common.{◌≡◌, ℕ, ◌<◌, ◌≤◌, List, [], ◌∷◌, Some, None, refl, sym, ap, ◌∙◌, inl, inr, arith}
use Rattle.std.specs.Prelude.{ℤ, pos, ◌+ℤ◌, Option, IfSome, OnSome}
use Rattle.std.proofs.lemmas.Bool.{cases_lt}
use Rattle.crack_row.specs.Ranges.{Range}
use Rattle.crack_index.specs.Sums.{lowest_start, AreRight, SumsAreKnown, IsAdditive, IsEnd, total_in}
use Rattle.crack_index.specs.Cuts.{StartsRise}
use Rattle.crack_index.proofs.Pieces.{in_yes, in_below, in_above, end-above, end-first}

total_yes : (low high : ℕ) (e : ℕ × ℤ) (es : List (ℕ × ℤ)) → low ≤ e.0 → e.0 < high → total_in (record { low = low; high = high }) (e ∷ es) ≡ e.1 +ℤ total_in (record { low = low; high = high }) es
total_yes low high e es h k = rw (in_yes low high e.0 h k) refl

total_below : (low high : ℕ) (e : ℕ × ℤ) (es : List (ℕ × ℤ)) → e.0 < low → total_in (record { low = low; high = high }) (e ∷ es) ≡ total_in (record { low = low; high = high }) es
total_below low high e es h = rw (in_below low high e.0 h) refl

total_above : (low high : ℕ) (es : List (ℕ × ℤ)) → StartsRise es → high ≤ lowest_start es → total_in (record { low = low; high = high }) es ≡ pos 0
total_above low high [] rises h = refl
total_above low high (e ∷ es) rises h = rw (in_above low high e.0 h) (total_above low high es rises.1 (omega (arith, rises.0)))

-- no piece begins between the two low ends
total_from : (low low' high : ℕ) (es : List (ℕ × ℤ)) → StartsRise es → low ≤ lowest_start es → low' ≤ lowest_start es → total_in (record { low = low; high = high }) es ≡ total_in (record { low = low'; high = high }) es
total_from low low' high [] rises h k = refl
total_from low low' high (e ∷ es) rises h k = elim (cases_lt e.0 high) [
  | inl l ↦ rw (in_yes low high e.0 h l, in_yes low' high e.0 k l) (ap (λ t. e.1 +ℤ t) (total_from low low' high es rises.1 (omega (arith, rises.0)) (omega (arith, rises.0))))
  | inr l ↦ rw (total_above low high (e ∷ es) rises l, total_above low' high (e ∷ es) rises l) refl
]

known_from : (low low' high : ℕ) (es : List (ℕ × ℤ)) → low ≤ low' → SumsAreKnown (record { low = low; high = high }) es → SumsAreKnown (record { low = low'; high = high }) es
known_from low low' high [] h known = tt
known_from low low' high (e ∷ es) h known = (λ l k. known.0 (omega arith) k, known_from low low' high es h known.1)

pub total-right : (m : ℕ → ℕ → ℤ) (low high : ℕ) (es : List (ℕ × ℤ)) → IsAdditive m → StartsRise es → low ≤ high → IsEnd low es → IsEnd high es → SumsAreKnown (record { low = low; high = high }) es → AreRight m es → total_in (record { low = low; high = high }) es ≡ m low high
total-right m low high [] adds rises h is_low is_high known right =
    let same : low ≡ high = is_low ∙ sym is_high in
    rw same (sym (adds.none high))
total-right m low high (e ∷ es) adds rises h is_low is_high known right = elim (cases_lt e.0 low) [
  | inl l ↦
      let later_low : IsEnd low es = elim is_low [ inl s ↦ absurd (omega arith) | inr s ↦ s ] in
      let later_high : IsEnd high es = elim is_high [ inl s ↦ absurd (omega arith) | inr s ↦ s ] in
      total_below low high e es l ∙ total-right m low high es adds rises.1 h later_low later_high known.1 right.1
  | inr l ↦
      let above = end-above low (e ∷ es) rises is_low in
      let same : low ≡ e.0 = omega arith in
      elim is_high [
        | inl s ↦
            let equal : low ≡ high = omega arith in
            total_above low high (e ∷ es) rises (omega arith) ∙ rw equal (sym (adds.none high))
        | inr s ↦
            let up = end-above high es rises.1 s in
            let rest = total-right m (lowest_start es) high es adds rises.1 up (end-first es) s (known_from low (lowest_start es) high es (omega (arith, rises.0)) known.1) right.1 in
            let first : e.1 ≡ m low (lowest_start es) = rw same (right.0 (known.0 l (omega (arith, rises.0)))) in
            total_yes low high e es l (omega (arith, rises.0)) ∙ ap (λ t. e.1 +ℤ t) (total_from low (lowest_start es) high es rises.1 (omega (arith, rises.0)) (omega arith) ∙ rest)
            ∙ ap (λ t. t +ℤ m (lowest_start es) high) first ∙ sym (adds.parts low (lowest_start es) high (omega (arith, rises.0)) up)
      ]
]

-- the total of a range whose ends are cut, and whose pieces have known sums
pub whole-right : (m : ℕ → ℕ → ℤ) (range : Range) (es : List (ℕ × ℤ)) (sum : ℤ) → IsAdditive m → StartsRise es → range.low ≤ range.high → IsEnd range.low es × IsEnd range.high es → SumsAreKnown range es → AreRight m es → sum ≡ total_in range es → sum ≡ m range.low range.high
whole-right m range es sum adds rises h ends known right is = is ∙ total-right m range.low range.high es adds rises h ends.0 ends.1 known right

pub some-right : (m : ℕ → ℕ → ℤ) (range : Range) (es : List (ℕ × ℤ)) (r : Option ℤ) → IsAdditive m → OnSome r (StartsRise es) → range.low ≤ range.high → IsEnd range.low es × IsEnd range.high es → OnSome r (SumsAreKnown range es) → AreRight m es → IfSome r (λ sum. sum ≡ total_in range es) → IfSome r (λ sum. sum ≡ m range.low range.high)
some-right m range es None adds rises h ends known right is = tt
some-right m range es (Some sum) adds rises h ends known right is = whole-right m range es sum adds rises h ends known right is

pub on_some : {X : Type 0} (r : Option X) (P : Type 0) → P → OnSome r P
on_some None P p = tt
on_some (Some x) P p = p
