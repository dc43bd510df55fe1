-- Laws of the place where a handle of a slot is.
use Rattle.std.proofs.Common.{◌≡◌, ℕ, suc, ◌<◌, ◌≤◌, ◌≢◌, List, [], ◌∷◌, length, get_or, sym, ◌∙◌, inl, inr, arith}
use Rattle.std.specs.Prelude.{◌==◌}
use Rattle.std.proofs.lemmas.List.Sums.{passes_at_first, position_or_len_is}
use Rattle.std.proofs.lemmas.Bool.{cases_eq, ne_eqb, eq-eqb, eqb-true}
use Rattle.crack_arena.specs.Arena.{Handle, times, slots, place_in, no_handle}
use Rattle.crack_arena.proofs.Times.{times-nil, times-cons, times_one, times_other, times-le-length}

-- a slot that is in the list has a place there
pub place_in-within : (hs : List Handle) (slot : ℕ) → 0 < times slot (slots hs) → place_in hs slot < length hs
place_in-within [] slot some = absurd (omega (arith, times-nil slot))
place_in-within (h ∷ hs) slot some = elim (cases_eq h.slot slot) [
  | inl e ↦ rw (eq-eqb h.slot slot e) (omega arith)
  | inr ne ↦
      let rest = place_in-within hs slot (omega (arith, times-cons slot h.slot (slots hs), times_one slot h.slot, times_other slot h.slot ne)) in
      rw (ne_eqb h.slot slot ne) (omega (arith, rest))
]

-- what is there is of that slot
pub place_in-slot : (hs : List Handle) (slot : ℕ) (d : Handle) → place_in hs slot < length hs → (get_or hs (place_in hs slot) d).slot ≡ slot
place_in-slot hs slot d within =
    eqb-true (get_or hs (place_in hs slot) d).slot slot (passes_at_first (λ (x : Handle). x.slot == slot) hs d within)

-- a place with the slot is the first, if none before it has it
pub place_in-is : (hs : List Handle) (slot place : ℕ) (d : Handle) → place < length hs → (get_or hs place d).slot ≡ slot → ((k : ℕ) → k < place → (get_or hs k d).slot ≢ slot) → place_in hs slot ≡ place
place_in-is hs slot place d within at before =
    position_or_len_is (λ (h : Handle). h.slot == slot) hs place d (omega (arith, within)) (λ k less. ne_eqb (get_or hs k d).slot slot (before k less)) (λ _. eq-eqb (get_or hs place d).slot slot at)

-- handles of different cells: no slot is there twice
pub times_apart_once : (hs : List Handle) (slot : ℕ) → ((j k : ℕ) → j < length hs → k < length hs → (get_or hs j no_handle).slot ≡ (get_or hs k no_handle).slot → j ≡ k) → times slot (slots hs) ≤ 1
times_apart_once [] slot apart = omega (arith, times-nil slot)
times_apart_once (h ∷ hs) slot apart = elim (cases_eq h.slot slot) [
  | inl e ↦ elim (cases_eq (times slot (slots hs)) 0) [
    | inl none ↦ omega (arith, none, times-cons slot h.slot (slots hs), times_one slot h.slot, times-le-length slot (h.slot ∷ []))
    | inr some ↦
        let place = place_in hs slot in
        let within = place_in-within hs slot (omega (arith, some)) in
        let at : h.slot ≡ (get_or hs place no_handle).slot = e ∙ sym (place_in-slot hs slot no_handle within) in
        let same : 0 ≡ suc place = apart 0 (suc place) (omega arith) (omega (arith, within)) at in
        absurd (omega (arith, same))
  ]
  | inr ne ↦
      let rest = times_apart_once hs slot (λ j k j_in k_in same. let one : suc j ≡ suc k = apart (suc j) (suc k) (omega (arith, j_in)) (omega (arith, k_in)) same in omega (arith, one)) in
      omega (arith, rest, times-cons slot h.slot (slots hs), times_one slot h.slot, times_other slot h.slot ne)
]
