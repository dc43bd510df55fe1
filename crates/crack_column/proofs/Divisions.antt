-- Laws of lists of keys that a bound divides.
use Rattle.std.proofs.Common.{◌≢◌, ℕ, ◌+◌, ◌-◌, ◌<◌, ◌≤◌, List, [], ◌∷◌, ◌++◌, length, set, take, sym, inl, inr, arith, length-append, length-set}
use Rattle.std.specs.List.{All}
use Rattle.std.proofs.lemmas.List.{get_or_append_left, get_or_push, get_or-set_same, get_or-set_other, get_or-take, length-take-le}
use Rattle.std.proofs.lemmas.Bool.{cases_eq, cases_lt}
use Rattle.crack_column.specs.Column.{IsDividedAt}

-- each key is at or above 0
pub IsDividedAt-zero : (keys : List ℕ) → IsDividedAt 0 keys 0
IsDividedAt-zero keys = record { within = omega arith; below = λ k h. absurd (omega arith); above = λ k h g. omega arith }

-- a bound above each key divides at the end
pub IsDividedAt-end : (bound : ℕ) (keys : List ℕ) → All (λ k. k < bound) keys → IsDividedAt bound keys (length keys)
IsDividedAt-end bound keys all = record { within = omega arith; below = λ k h. all k 0 h; above = λ k h g. absurd (omega arith) }

-- a greater bound divides no earlier
pub IsDividedAt-order : (low high : ℕ) (keys : List ℕ) (p q : ℕ) → low ≤ high → IsDividedAt low keys p → IsDividedAt high keys q → p ≤ q
IsDividedAt-order low high keys p q order d e =
    elim (cases_lt q p) [
      | inl l ↦ absurd (omega (arith, d.below q l, e.above q (omega arith) (omega (arith, d.within))))
      | inr g ↦ g
    ]

-- one more key at the end
pub IsDividedAt-append_above : (bound : ℕ) (keys : List ℕ) (place key : ℕ) → bound ≤ key → IsDividedAt bound keys place → IsDividedAt bound (keys ++ key ∷ []) place
IsDividedAt-append_above bound keys place key above d =
    let long = length-append keys (key ∷ []) in
    record {
      within = omega (arith, d.within, long);
      below = λ k h. rw (get_or_append_left keys (key ∷ []) 0 k (omega (arith, d.within))) (d.below k h);
      above = λ k h g. elim (cases_eq k (length keys)) [
        | inl e ↦ rw (get_or_push keys key 0 k (sym e)) above
        | inr ne ↦ rw (get_or_append_left keys (key ∷ []) 0 k (omega (arith, long))) (d.above k h (omega (arith, long)))
      ];
    }

pub IsDividedAt-append_below : (bound : ℕ) (keys : List ℕ) (key : ℕ) → key < bound → IsDividedAt bound keys (length keys) → IsDividedAt bound (keys ++ key ∷ []) (length keys + 1)
IsDividedAt-append_below bound keys key below d =
    let long = length-append keys (key ∷ []) in
    record {
      within = omega (arith, long);
      below = λ k h. elim (cases_eq k (length keys)) [
        | inl e ↦ rw (get_or_push keys key 0 k (sym e)) below
        | inr ne ↦ rw (get_or_append_left keys (key ∷ []) 0 k (omega arith)) (d.below k (omega arith))
      ];
      above = λ k h g. absurd (omega (arith, long));
    }

-- another key at one place, where the division stays or moves over it
IsDividedAt-set : (bound : ℕ) (keys : List ℕ) (p q i key : ℕ) → ((k : ℕ) → k ≢ i → k < q → k < p) → ((k : ℕ) → k ≢ i → q ≤ k → p ≤ k) → (i < q → key < bound) → (q ≤ i → bound ≤ key) → q ≤ length keys → IsDividedAt bound keys p → IsDividedAt bound (set keys i key) q
IsDividedAt-set bound keys p q i key before behind low high within d =
    let long = length-set keys i key in
    record {
      within = omega (arith, long);
      below = λ k h. elim (cases_eq k i) [
        | inl e ↦ rw (e, get_or-set_same keys i key 0 (omega arith)) (low (omega arith))
        | inr ne ↦ rw (get_or-set_other keys i k key 0 ne) (d.below k (before k ne h))
      ];
      above = λ k h g. elim (cases_eq k i) [
        | inl e ↦ rw (e, get_or-set_same keys i key 0 (omega (arith, long))) (high (omega arith))
        | inr ne ↦ rw (get_or-set_other keys i k key 0 ne) (d.above k (behind k ne h) (omega (arith, long)))
      ];
    }

-- another key before the division
pub IsDividedAt-set_below : (bound : ℕ) (keys : List ℕ) (place i key : ℕ) → i < place → key < bound → IsDividedAt bound keys place → IsDividedAt bound (set keys i key) place
IsDividedAt-set_below bound keys place i key inside below d =
    IsDividedAt-set bound keys place place i key (λ k _ h. h) (λ k _ h. h) (λ _. below) (λ h. absurd (omega arith)) d.within d

-- another key after the division
pub IsDividedAt-set_above : (bound : ℕ) (keys : List ℕ) (place i key : ℕ) → place ≤ i → bound ≤ key → IsDividedAt bound keys place → IsDividedAt bound (set keys i key) place
IsDividedAt-set_above bound keys place i key inside above d =
    IsDividedAt-set bound keys place place i key (λ k _ h. h) (λ k _ h. h) (λ h. absurd (omega arith)) (λ _. above) d.within d

-- the division moves up over a key below the bound that is put there
pub IsDividedAt-raised : (bound : ℕ) (keys : List ℕ) (place key : ℕ) → place < length keys → key < bound → IsDividedAt bound keys place → IsDividedAt bound (set keys place key) (place + 1)
IsDividedAt-raised bound keys place key inside below d =
    IsDividedAt-set bound keys place (place + 1) place key (λ k ne h. omega arith) (λ k _ h. omega arith) (λ _. below) (λ h. absurd (omega arith)) (omega arith) d

-- the division moves down over a key at or above the bound that is put before it
pub IsDividedAt-lowered : (bound : ℕ) (keys : List ℕ) (place key : ℕ) → 0 < place → bound ≤ key → IsDividedAt bound keys place → IsDividedAt bound (set keys (place - 1) key) (place - 1)
IsDividedAt-lowered bound keys place key inside above d =
    IsDividedAt-set bound keys place (place - 1) (place - 1) key (λ k _ h. omega arith) (λ k ne h. omega arith) (λ h. absurd (omega arith)) (λ _. above) (omega (arith, d.within)) d

-- without the last keys
pub IsDividedAt-take : (bound : ℕ) (keys : List ℕ) (place n : ℕ) → place ≤ n → n ≤ length keys → IsDividedAt bound keys place → IsDividedAt bound (take n keys) place
IsDividedAt-take bound keys place n order within d =
    let long = length-take-le n keys within in
    record {
      within = omega (arith, long);
      below = λ k h. rw (get_or-take n keys k 0 (omega arith)) (d.below k h);
      above = λ k h g. rw (get_or-take n keys k 0 (omega (arith, long))) (d.above k h (omega (arith, long)));
    }
