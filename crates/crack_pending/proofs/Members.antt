-- Laws of the bits that say which cells have a handle in a list.
use Rattle.std.proofs.Common.{◌≡◌, ◌≢◌, ℕ, zero, suc, ◌+◌, ◌/◌, ◌%◌, ◌*◌, ◌^◌, ◌<◌, ◌≤◌, ◌↔◌, true, eqb, List, [], ◌∷◌, ◌++◌, length, get_or, set, replicate, refl, sym, ap, ◌∙◌, inl, inr, arith, eqb-true, eq-eqb, w64}
use Rattle.std.specs.Prelude.{bit_and, bit_or}
use Rattle.std.specs.List.{remove}
use Rattle.std.specs.Int.{bit_at, bit_not}
use Rattle.std.proofs.lemmas.Bool.{cases_eq, cases_lt}
use Rattle.std.proofs.lemmas.List.{get_or-set_same, get_or-set_other, get_or_past}
use Rattle.std.proofs.lemmas.Nat.Bits.{bit_at-zero, shr_and_one, bit_at_set_same, bit_at_set_other, bit_at_clear_same, bit_at_clear_other}
use Rattle.crack_arena.specs.Arena.{Handle, times, slots, no_handle}
use Rattle.crack_arena.proofs.Times.{times-nil, times_head, times_other, times-map-append, times-map-remove}
use Rattle.crack_pending.specs.Keeps.{Has, AreMembers}

-- what the test of a bit shows
pub tested : (words : List ℕ) (number : ℕ) → (eqb (bit_and (get_or words (number / 64) 0 / 2 ^ (number % 64)) 1) 1 ≡ true) ↔ Has words number
unfolding Has
tested words number = rw shr_and_one (eqb-true _ 1, eq-eqb _ 1)

-- no number has a bit after the last word
pub Has-within : (words : List ℕ) (number : ℕ) → Has words number → number < 64 * length words
unfolding Has
Has-within words number has = elim (cases_lt (number / 64) (length words)) [
  | inl l ↦ omega (arith, l)
  | inr past ↦
      let word : get_or words (number / 64) 0 ≡ 0 = get_or_past words (number / 64) 0 past in
      let none : bit_at (get_or words (number / 64) 0) (number % 64) ≡ 0 = ap (λ n. bit_at n (number % 64)) word ∙ bit_at-zero (number % 64) in
      absurd (omega (arith, none, has))
]

abbrev pub zeros : ℕ → List ℕ
zeros n = replicate n 0

zero_at : (n k : ℕ) → get_or (zeros n) k 0 ≡ 0
zero_at zero k = refl
zero_at (suc n) zero = refl
zero_at (suc n) (suc k) = zero_at n k

-- words that are 0 have no bits
pub Has-zeros : (n number : ℕ) → ¬ Has (zeros n) number
unfolding Has
Has-zeros n number has =
    let none : bit_at (get_or (zeros n) (number / 64) 0) (number % 64) ≡ 0 = ap (λ w. bit_at w (number % 64)) (zero_at n (number / 64)) ∙ bit_at-zero (number % 64) in
    absurd (omega (arith, none, has))

-- words that read the same have the same bits
pub Has-same : (words words' : List ℕ) → ((k : ℕ) → get_or words' k 0 ≡ get_or words k 0) → (number : ℕ) → Has words' number ↔ Has words number
unfolding Has
Has-same words words' same number =
    let word : bit_at (get_or words' (number / 64) 0) (number % 64) ≡ bit_at (get_or words (number / 64) 0) (number % 64) = ap (λ n. bit_at n (number % 64)) (same (number / 64)) in
    (λ has. sym word ∙ has, λ has. word ∙ has)

-- a word without a bit at the end
pub zero_more : (words : List ℕ) (k : ℕ) → get_or (words ++ 0 ∷ []) k 0 ≡ get_or words k 0
zero_more [] zero = refl
zero_more [] (suc k) = refl
zero_more (x ∷ words) zero = refl
zero_more (x ∷ words) (suc k) = zero_more words k

module _ (words : List ℕ) (number : ℕ) (within : number < 64 * length words) where
  place_within : number / 64 < length words
  place_within = omega (arith, within)

  -- another word in the number's place
  written_others : (word : ℕ) → ((i : ℕ) → i < 64 → i ≢ number % 64 → bit_at word i ≡ bit_at (get_or words (number / 64) 0) i) → (other : ℕ) → other ≢ number → Has (set words (number / 64) word) other ↔ Has words other
  unfolding Has
  written_others word alike other apart =
      let read : bit_at (get_or (set words (number / 64) word) (other / 64) 0) (other % 64) ≡ bit_at (get_or words (other / 64) 0) (other % 64) = elim (cases_eq (other / 64) (number / 64)) [
        | inl e ↦
            let elsewhere : other % 64 ≢ number % 64 = λ same. apart (omega (arith, e, same)) in
            rw e (ap (λ n. bit_at n (other % 64)) (get_or-set_same words (number / 64) word 0 place_within) ∙ alike (other % 64) (omega arith) elsewhere)
        | inr ne ↦ ap (λ n. bit_at n (other % 64)) (get_or-set_other words (number / 64) (other / 64) word 0 ne)
      ] in
      (λ has. sym read ∙ has, λ has. read ∙ has)

  pub put_there : Has (set words (number / 64) (bit_or (get_or words (number / 64) 0) (1 * 2 ^ (number % 64) % 2 ^ 64))) number
  unfolding Has
  put_there =
      ap (λ n. bit_at n (number % 64)) (get_or-set_same words (number / 64) (bit_or (get_or words (number / 64) 0) (1 * 2 ^ (number % 64) % 2 ^ 64)) 0 place_within) ∙ bit_at_set_same w64 (get_or words (number / 64) 0) (number % 64) (omega arith)

  pub put_others : (other : ℕ) → other ≢ number → Has (set words (number / 64) (bit_or (get_or words (number / 64) 0) (1 * 2 ^ (number % 64) % 2 ^ 64))) other ↔ Has words other
  put_others = written_others _ (λ i small apart. bit_at_set_other w64 (get_or words (number / 64) 0) (number % 64) (omega arith) i apart)

  pub struck_gone : ¬ Has (set words (number / 64) (bit_and (get_or words (number / 64) 0) (bit_not w64 (1 * 2 ^ (number % 64) % 2 ^ 64)))) number
  unfolding Has
  struck_gone has =
      let read : bit_at (get_or (set words (number / 64) (bit_and (get_or words (number / 64) 0) (bit_not w64 (1 * 2 ^ (number % 64) % 2 ^ 64)))) (number / 64) 0) (number % 64) ≡ 0 =
      ap (λ n. bit_at n (number % 64)) (get_or-set_same words (number / 64) (bit_and (get_or words (number / 64) 0) (bit_not w64 (1 * 2 ^ (number % 64) % 2 ^ 64))) 0 place_within) ∙ bit_at_clear_same w64 (get_or words (number / 64) 0) (number % 64) (omega arith) in
      absurd (omega (arith, read, has))

  pub struck_others : (other : ℕ) → other ≢ number → Has (set words (number / 64) (bit_and (get_or words (number / 64) 0) (bit_not w64 (1 * 2 ^ (number % 64) % 2 ^ 64)))) other ↔ Has words other
  struck_others = written_others _ (λ i small apart. bit_at_clear_other w64 (get_or words (number / 64) 0) (number % 64) (omega arith) i small apart)

-- the bits of a list's cells

pub members_none : AreMembers [] [] 0
members_none = record {
  within = omega arith;
  right = λ slot. (λ has. absurd (omega (arith, Has-within [] slot has)), λ some. absurd (omega (arith, some, times-nil slot)));
}

module _ (words words' : List ℕ) (handles : List Handle) (covered : ℕ) (members : AreMembers words handles covered) where
  -- one more handle
  pub members_more : (h : Handle) → length words' ≡ length words → Has words' h.slot → ((other : ℕ) → other ≢ h.slot → Has words' other ↔ Has words other) → AreMembers words' (handles ++ h ∷ []) covered
  members_more h long there others = record {
    within = omega (arith, members.within, long);
    right = λ slot.
        let more = times-map-append slot (λ (x : Handle). x.slot) handles (h ∷ []) in
        elim (cases_eq slot h.slot) [
          | inl e ↦
              let one : times slot (h.slot ∷ []) ≡ 1 + times slot [] = rw e (times_head h.slot []) in
              (λ _. omega (arith, more, one), λ _. rw e there)
          | inr ne ↦
              let none : times slot (h.slot ∷ []) ≡ 0 = times_other slot h.slot (λ e. ne (sym e)) in (
                λ has. omega (arith, (members.right slot).0 ((others slot ne).0 has), more, none),
                λ some. (others slot ne).1 ((members.right slot).1 (omega (arith, some, more, none))),
              )
        ];
  }

  -- one handle less
  pub members_less : (place slot : ℕ) → place < length handles → (get_or handles place no_handle).slot ≡ slot → ((n : ℕ) → times n (slots handles) ≤ 1) → length words' ≡ length words → ¬ Has words' slot → ((other : ℕ) → other ≢ slot → Has words' other ↔ Has words other) → AreMembers words' (remove handles place) covered
  members_less place slot inside at once long gone others = record {
    within = omega (arith, members.within, long);
    right = λ n.
        let less : times n (slots (remove handles place)) + times n (slot ∷ []) ≡ times n (slots handles) = rw at at (times-map-remove n (λ (x : Handle). x.slot) handles place no_handle inside) in
        elim (cases_eq n slot) [
          | inl e ↦
              let one : times n (slot ∷ []) ≡ 1 + times n [] = rw e (times_head slot []) in
              (λ has. absurd (gone (rw e at has)), λ some. absurd (omega (arith, some, less, one, once n)))
          | inr ne ↦
              let none : times n (slot ∷ []) ≡ 0 = times_other n slot (λ e. ne (sym e)) in (
                λ has. omega (arith, (members.right n).0 ((others n ne).0 has), less, none),
                λ some. (others n ne).1 ((members.right n).1 (omega (arith, some, less, none))),
              )
        ];
  }

  -- place for more cells
  pub members_longer : (covered' : ℕ) → covered' ≤ 64 * length words' → ((number : ℕ) → Has words' number ↔ Has words number) → AreMembers words' handles covered'
  members_longer covered' within same = record {
    within = within;
    right = λ slot. (λ has. (members.right slot).0 ((same slot).0 has), λ some. (same slot).1 ((members.right slot).1 some));
  }
