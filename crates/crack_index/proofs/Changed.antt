-- What a change at a key does to the pieces.
use Rattle.std.proofs.Common.{◌≡◌, ℕ, ◌<◌, ◌≤◌, List, [], ◌∷◌, Some, None, refl, sym, ap, subst, ◌∙◌, inl, inr, arith}
use Rattle.std.specs.Prelude.{ℤ, ◌+ℤ◌, ◌||◌, not, true, false}
use Rattle.std.specs.Ordering.{int_eq}
use Rattle.std.specs.Map.{keys_of}
use Rattle.std.proofs.lemmas.Bool.{cases_lt, cases_Bool}
use Rattle.crack_row.specs.Ranges.{is_in}
use Rattle.crack_row.specs.declared.TheConstants.{GREATEST_BOUND}
use Rattle.crack_index.specs.declared.sums.TheConstants.{UNKNOWN}
use Rattle.crack_index.specs.Sums.{lowest_start, IsKnown, AreRight, Changes, fits, later, adjusted}
use Rattle.crack_index.specs.Cuts.{StartsRise, sum_piece_at, given}
use Rattle.crack_index.proofs.Pieces.{in_yes, in_below, in_above, at_first, at_later, at_before, given_same, given_apart, piece-is}

adjusted_first : (key : ℕ) (change : ℤ) (e : ℕ × ℤ) (es : List (ℕ × ℤ)) → e.0 ≤ key → key < lowest_start es → adjusted key change (e ∷ es) ≡ (e.0, later change e.1) ∷ es
adjusted_first key change e es h k = rw (in_yes e.0 (lowest_start es) key h k) refl

adjusted_later : (key : ℕ) (change : ℤ) (e : ℕ × ℤ) (es : List (ℕ × ℤ)) → lowest_start es ≤ key → adjusted key change (e ∷ es) ≡ e ∷ adjusted key change es
adjusted_later key change e es h = rw (in_above e.0 (lowest_start es) key h) refl

adjusted_before : (key : ℕ) (change : ℤ) (e : ℕ × ℤ) (es : List (ℕ × ℤ)) → key < e.0 → adjusted key change (e ∷ es) ≡ e ∷ adjusted key change es
adjusted_before key change e es h = rw (in_below e.0 (lowest_start es) key h) refl

pub adjusted-none : (key : ℕ) (change : ℤ) (es : List (ℕ × ℤ)) → sum_piece_at key es ≡ None → adjusted key change es ≡ es
adjusted-none key change [] none = refl
adjusted-none key change (e ∷ es) none = elim (cases_lt key e.0) [
  | inl l ↦ rw (adjusted_before key change e es l) (ap (λ (r : List (ℕ × ℤ)). e ∷ r) (adjusted-none key change es (rw (at_before key e es l) at none)))
  | inr l ↦ elim (cases_lt key (lowest_start es)) [
    | inl k ↦ let one : Some e ≡ None = rw (at_first key e es l k) at none in absurd (cc)
    | inr k ↦ rw (adjusted_later key change e es k) (ap (λ (r : List (ℕ × ℤ)). e ∷ r) (adjusted-none key change es (rw (at_later key e es k) at none)))
  ]
]

pub adjusted-piece : (key : ℕ) (change : ℤ) (es : List (ℕ × ℤ)) (p : ℕ × ℤ) → StartsRise es → key < GREATEST_BOUND → sum_piece_at key es ≡ Some p → given p.0 (later change p.1) es ≡ adjusted key change es
adjusted-piece key change [] p rises few found = absurd (cc)
adjusted-piece key change (e ∷ es) p rises few found = elim (cases_lt key e.0) [
  | inl l ↦
      let rest = rw (at_before key e es l) at found in
      let is = piece-is key es p rises.1 few rest in
      absurd (omega (arith, is.start, is.below, rises.0))
  | inr l ↦ elim (cases_lt key (lowest_start es)) [
    | inl k ↦
        let one : Some e ≡ Some p = rw (at_first key e es l k) at found in
        let same : e ≡ p = cc in
        subst (λ (q : ℕ × ℤ). given q.0 (later change q.1) (e ∷ es) ≡ adjusted key change (e ∷ es)) same (given_same e.0 (later change e.1) e es refl ∙ sym (adjusted_first key change e es l k))
    | inr k ↦
        let rest = rw (at_later key e es k) at found in
        let is = piece-is key es p rises.1 few rest in
        rw (given_apart p.0 (later change p.1) e es (λ s. absurd (omega (arith, rises.0, is.start))), adjusted_later key change e es k)
        (ap (λ (r : List (ℕ × ℤ)). e ∷ r) (adjusted-piece key change es p rises.1 few rest))
  ]
]

pub keys-adjusted : (key : ℕ) (change : ℤ) (es : List (ℕ × ℤ)) → keys_of (adjusted key change es) ≡ keys_of es
keys-adjusted key change [] = refl
keys-adjusted key change (e ∷ es) = elim (cases_lt key e.0) [
  | inl l ↦ rw (adjusted_before key change e es l) (ap (λ (r : List ℕ). e.0 ∷ r) (keys-adjusted key change es))
  | inr l ↦ elim (cases_lt key (lowest_start es)) [
    | inl k ↦ rw (adjusted_first key change e es l k) refl
    | inr k ↦ rw (adjusted_later key change e es k) (ap (λ (r : List ℕ). e.0 ∷ r) (keys-adjusted key change es))
  ]
]

start-adjusted : (key : ℕ) (change : ℤ) (es : List (ℕ × ℤ)) → lowest_start (adjusted key change es) ≡ lowest_start es
start-adjusted key change [] = refl
start-adjusted key change (e ∷ es) = elim (cases_lt key e.0) [
  | inl l ↦ rw (adjusted_before key change e es l) refl
  | inr l ↦ elim (cases_lt key (lowest_start es)) [
    | inl k ↦ rw (adjusted_first key change e es l k) refl
    | inr k ↦ rw (adjusted_later key change e es k) refl
  ]
]

-- a later sum that is known is the sum, which was known, and the change
pub later-known : (change sum : ℤ) → IsKnown (later change sum) → IsKnown sum × (later change sum ≡ sum +ℤ change)
later-known change sum known = elim (cases_Bool (int_eq sum UNKNOWN || not (fits (sum +ℤ change)))) [
  | inl beyond ↦ absurd (known (rw beyond refl))
  | inr none ↦ (λ is. let one : int_eq sum UNKNOWN ≡ true = rw is (refl) in absurd (let two : (int_eq sum UNKNOWN || not (fits (sum +ℤ change))) ≡ true = rw one refl in cc), rw none refl)
]

module _ (key : ℕ) (change : ℤ) (m m' : ℕ → ℕ → ℤ) (changes : Changes key change m m') where
  -- a piece that doesn't have the key is right after the change if it was before
  apart : (low high : ℕ) (sum : ℤ) → is_in (record { low = low; high = high }) key ≡ false → sum ≡ m low high → sum ≡ m' low high
  apart low high sum out is = is ∙ sym (rw out at (changes low high))

  AreRight-below : (es : List (ℕ × ℤ)) → StartsRise es → key < lowest_start es → AreRight m es → AreRight m' es
  AreRight-below [] rises h right = tt
  AreRight-below (e ∷ es) rises h right =
      (λ known. apart e.0 (lowest_start es) e.1 (in_below e.0 (lowest_start es) key h) (right.0 known), AreRight-below es rises.1 (omega (arith, rises.0)) right.1)

  pub AreRight-adjusted : (es : List (ℕ × ℤ)) → StartsRise es → AreRight m es → AreRight m' (adjusted key change es)
  AreRight-adjusted [] rises right = tt
  AreRight-adjusted (e ∷ es) rises right = elim (cases_lt key e.0) [
    | inl l ↦ rw (adjusted_before key change e es l)
        (λ known. rw (start-adjusted key change es) (apart e.0 (lowest_start es) e.1 (in_below e.0 (lowest_start es) key l) (right.0 known)), AreRight-adjusted es rises.1 right.1)
    | inr l ↦ elim (cases_lt key (lowest_start es)) [
      | inl k ↦ rw (adjusted_first key change e es l k)
          (λ known. let was = later-known change e.1 known in was.1 ∙ ap (λ s. s +ℤ change) (right.0 was.0) ∙ sym (rw (in_yes e.0 (lowest_start es) key l k) at (changes e.0 (lowest_start es))), AreRight-below es rises.1 k right.1)
      | inr k ↦ rw (adjusted_later key change e es k)
          (λ known. rw (start-adjusted key change es) (apart e.0 (lowest_start es) e.1 (in_above e.0 (lowest_start es) key k) (right.0 known)), AreRight-adjusted es rises.1 right.1)
    ]
  ]
