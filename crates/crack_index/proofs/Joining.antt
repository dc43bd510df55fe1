-- Two neighbouring pieces of known sums as one.
use Rattle.std.proofs.Common.{◌≡◌, ◌≢◌, ℕ, ◌+◌, ◌<◌, ◌≤◌, List, [], ◌∷◌, length, Some, None, refl, sym, ap, ◌∙◌, inl, inr, arith}
use Rattle.std.specs.Prelude.{ℤ, ◌+ℤ◌}
use Rattle.std.proofs.lemmas.Bool.{cases_eq, cases_lt, eq-eqb, ne_eqb}
use Rattle.std.proofs.lemmas.Int.{ints}
use Rattle.crack_row.specs.declared.TheConstants.{GREATEST_BOUND}
use Rattle.crack_index.specs.Sums.{lowest_start, IsAdditive, AreRight, IsEnd, both, joined_below}
use Rattle.crack_index.specs.Cuts.{StartsRise, sum_piece_at, given, dropped}
use Rattle.crack_index.proofs.Pieces.{at_first, at_later, at_before, below_all, piece-is, given_same, given_apart}
use Rattle.crack_index.proofs.SumTotals.{both-known}

dropped_later : (key : ℕ) (e : ℕ × ℤ) (es : List (ℕ × ℤ)) → e.0 < key → dropped key (e ∷ es) ≡ e ∷ dropped key es
dropped_later key e es h = rw (ne_eqb key e.0 (λ s. absurd (omega arith))) refl

dropped_first : (key : ℕ) (e : ℕ × ℤ) (es : List (ℕ × ℤ)) → key ≡ e.0 → dropped key (e ∷ es) ≡ es
dropped_first key e es same = rw (eq-eqb key e.0 same) refl

start-above : (key : ℕ) (es : List (ℕ × ℤ)) → StartsRise es → lowest_start es ≤ lowest_start (dropped key es)
start-above key [] rises = omega arith
start-above key (e ∷ es) rises = elim (cases_eq key e.0) [
  | inl same ↦ rw (dropped_first key e es same) (omega (arith, rises.0))
  | inr ne ↦ rw (ne_eqb key e.0 ne) (omega arith)
]

pub Rises-dropped : (key : ℕ) (es : List (ℕ × ℤ)) → StartsRise es → StartsRise (dropped key es)
Rises-dropped key [] rises = tt
Rises-dropped key (e ∷ es) rises = elim (cases_eq key e.0) [
  | inl same ↦ rw (dropped_first key e es same) rises.1
  | inr ne ↦ rw (ne_eqb key e.0 ne) (omega (arith, rises.0, start-above key es rises.1), Rises-dropped key es rises.1)
]

pub length-dropped : (key : ℕ) (es : List (ℕ × ℤ)) → key < GREATEST_BOUND → IsEnd key es → length (dropped key es) + 1 ≡ length es
length-dropped key [] few is = absurd (omega arith)
length-dropped key (e ∷ es) few is = elim (cases_eq key e.0) [
  | inl same ↦ rw (dropped_first key e es same) (omega arith)
  | inr ne ↦
      let there : IsEnd key es = elim is [ inl same ↦ absurd (ne same) | inr later ↦ later ] in
      rw (ne_eqb key e.0 ne) (omega (arith, length-dropped key es few there))
]

-- What the pieces are once two are one

joined_same : (key : ℕ) (e f : ℕ × ℤ) (fs : List (ℕ × ℤ)) → key ≡ f.0 → joined_below key (e ∷ f ∷ fs) ≡ (e.0, both e.1 f.1) ∷ fs
joined_same key e f fs same = rw (eq-eqb key f.0 same) refl

joined_apart : (key : ℕ) (e f : ℕ × ℤ) (fs : List (ℕ × ℤ)) → key ≢ f.0 → joined_below key (e ∷ f ∷ fs) ≡ e ∷ joined_below key (f ∷ fs)
joined_apart key e f fs apart = rw (ne_eqb key f.0 apart) refl

joined_above : (key : ℕ) (e : ℕ × ℤ) (es : List (ℕ × ℤ)) → key < GREATEST_BOUND → lowest_start es < key → joined_below key (e ∷ es) ≡ e ∷ joined_below key es
joined_above key e [] few above = absurd (omega arith)
joined_above key e (f ∷ fs) few above = joined_apart key e f fs (λ s. absurd (omega arith))

start-joined : (key : ℕ) (es : List (ℕ × ℤ)) → lowest_start (joined_below key es) ≡ lowest_start es
start-joined key [] = refl
start-joined key (e ∷ []) = refl
start-joined key (e ∷ f ∷ fs) = elim (cases_eq key f.0) [
  | inl same ↦ rw (joined_same key e f fs same) refl
  | inr apart ↦ rw (joined_apart key e f fs apart) refl
]

-- no piece begins at the key
pub joined-none : (key : ℕ) (es : List (ℕ × ℤ)) → (IsEnd key es → ⊥) → joined_below key es ≡ es
joined-none key [] none = refl
joined-none key (e ∷ []) none = refl
joined-none key (e ∷ f ∷ fs) none =
    joined_apart key e f fs (λ s. none (inr (inl s))) ∙ ap (λ (r : List (ℕ × ℤ)). e ∷ r) (joined-none key (f ∷ fs) (λ is. none (inr is)))

-- no piece is below it
pub joined-first : (key : ℕ) (es : List (ℕ × ℤ)) → StartsRise es → key ≤ lowest_start es → joined_below key es ≡ es
joined-first key [] rises below = refl
joined-first key (e ∷ []) rises below = refl
joined-first key (e ∷ f ∷ fs) rises below =
    joined_apart key e f fs (λ s. absurd (omega (arith, rises.0))) ∙ ap (λ (r : List (ℕ × ℤ)). e ∷ r) (joined-first key (f ∷ fs) rises.1 (omega (arith, rises.0)))

-- the upper piece is dropped, and the lower one gets the sum of both
pub joined-piece : (below key low : ℕ) (lower upper : ℤ) (es : List (ℕ × ℤ)) → StartsRise es → key < GREATEST_BOUND → below + 1 ≡ key → sum_piece_at below es ≡ Some (low, lower) → sum_piece_at key es ≡ Some (key, upper)
    → given low (both lower upper) (dropped key es) ≡ joined_below key es
joined-piece below key low lower upper [] rises few next first second = refl
joined-piece below key low lower upper (e ∷ es) rises few next first second = elim (cases_lt below e.0) [
  | inl l ↦ let none : sum_piece_at below (e ∷ es) ≡ None = at_before below e es l ∙ below_all below es rises.1 (omega (arith, rises.0)) in absurd (cc)
  | inr l ↦ elim (cases_lt below (lowest_start es)) [
    | inl k ↦
        let one : Some e ≡ Some (low, lower) = rw (at_first below e es l k) at first in
        let is_e : e ≡ (low, lower) = cc in
        elim (cases_lt key (lowest_start es)) [
          | inl j ↦
              let two : Some e ≡ Some (key, upper) = rw (at_first key e es (omega arith) j) at second in
              let is : e ≡ (key, upper) = cc in
              let start : e.0 ≡ key = ap (λ (p : ℕ × ℤ). p.0) is in
              absurd (omega arith)
          | inr j ↦ neighbours es (omega arith) rises is_e (rw (at_later key e es j) at second)
        ]
    | inr k ↦
        let down = rw (at_later below e es k) at first in
        let up = rw (at_later key e es (omega arith)) at second in
        let above = (piece-is below es (low, lower) rises.1 (omega arith) down).start in
        let apart : low ≢ e.0 = λ s. absurd (omega (arith, rises.0, above)) in
        let rest = joined-piece below key low lower upper es rises.1 few next down up in
        rw (dropped_later key e es (omega arith), given_apart low (both lower upper) e (dropped key es) apart, joined_above key e es few (omega arith), rest) refl
  ]
]
  where
    neighbours : (fs : List (ℕ × ℤ)) → lowest_start fs ≡ key → StartsRise (e ∷ fs) → e ≡ (low, lower) → sum_piece_at key fs ≡ Some (key, upper) → given low (both lower upper) (dropped key (e ∷ fs)) ≡ joined_below key (e ∷ fs)
    neighbours [] start rising is_e found = absurd (omega arith)
    neighbours (f ∷ gs) start rising is_e found =
        let one : Some f ≡ Some (key, upper) = rw (at_first key f gs (omega arith) (omega (arith, rising.1.0))) at found in
        let is_f : f ≡ (key, upper) = cc in
        let low_is : e.0 ≡ low = ap (λ (p : ℕ × ℤ). p.0) is_e in
        let lower_is : e.1 ≡ lower = ap (λ (p : ℕ × ℤ). p.1) is_e in
        let upper_is : f.1 ≡ upper = ap (λ (p : ℕ × ℤ). p.1) is_f in
        rw (dropped_later key e (f ∷ gs) (omega (arith, rising.0)), dropped_first key f gs (sym start), given_same low (both lower upper) e gs (sym low_is), joined_same key e f gs (sym start), lower_is, upper_is) refl

-- the sum of both is that of the piece that they become
pub AreRight-joined : (m : ℕ → ℕ → ℤ) (key : ℕ) (es : List (ℕ × ℤ)) → IsAdditive m → StartsRise es → AreRight m es → AreRight m (joined_below key es)
AreRight-joined m key [] adds rises right = tt
AreRight-joined m key (e ∷ []) adds rises right = right
AreRight-joined m key (e ∷ f ∷ fs) adds rises right = elim (cases_eq key f.0) [
  | inl same ↦ rw (joined_same key e f fs same) (
    λ known.
        let all = both-known e.1 f.1 known in
        let one : e.1 ≡ m e.0 f.0 = right.0 all.0 in
        let two : f.1 ≡ m f.0 (lowest_start fs) = right.1.0 all.1 in
        let three : both e.1 f.1 ≡ e.1 +ℤ f.1 = all.2 in
        let four = adds.parts e.0 f.0 (lowest_start fs) (omega (arith, rises.0)) (omega (arith, rises.1.0)) in
        omega (arith, ints),
    right.1.1,
  )
  | inr apart ↦ rw (joined_apart key e f fs apart) (λ known. rw (start-joined key (f ∷ fs)) (right.0 known), AreRight-joined m key (f ∷ fs) adds rises.1 right.1)
]
