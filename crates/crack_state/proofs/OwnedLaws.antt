-- Where cells are: counted by number.
use Rattle.std.proofs.Common.{◌≡◌, ◌≢◌, ℕ, ◌+◌, ◌<◌, ◌≤◌, Bool, true, false, ltb, cond, List, [], ◌∷◌, ◌++◌, length, get_or, set, refl, sym, ap, ◌∙◌, inl, inr, arith}
use Rattle.std.specs.List.{All, remove}
use Rattle.std.proofs.lemmas.List.{map-set, length-map, get_or-map}
use Rattle.std.proofs.lemmas.Bool.{cases_lt, le-ltb}
use Rattle.crack_row.specs.declared.Row.{Row}
use Rattle.crack_arena.specs.Arena.{Cell, Handle, times, slots}
use Rattle.crack_arena.proofs.Times.{times_head, times-append, times-set, times-map-remove, times_map_at}
use Rattle.crack_state.specs.State.{State, IsOwned}
use Rattle.crack_state.proofs.Words.{places}

-- where the cells of a store are
abbrev pub places_of : State → List Handle → List ℕ
places_of s hand = places s.column s.pending_in s.free hand

-- a handle put at a place of a list, and the one that was there
pub times-exchange : (n : ℕ) (hs : List Handle) (place : ℕ) (hand met : Handle) → place < length hs → met ≡ get_or hs place met → times n (slots (set hs place hand)) + times n (slots (met ∷ [])) ≡ times n (slots hs) + times n (slots (hand ∷ []))
times-exchange n hs place hand met inside found =
    let read : get_or (slots hs) place met.slot ≡ met.slot = get_or-map (λ (h : Handle). h.slot) hs place met met.slot inside ∙ ap (λ (h : Handle). h.slot) (sym found) in
    let counted = times-set n (slots hs) place hand.slot met.slot (omega (arith, length-map hs (λ (h : Handle). h.slot))) in
    rw (map-set (λ (h : Handle). h.slot) hs place hand) (rw read at counted)

-- a handle taken from a list
pub times-taken : (n : ℕ) (hs : List Handle) (i : ℕ) (hand : Handle) → i < length hs → hand ≡ get_or hs i hand → times n (slots (remove hs i)) + times n (slots (hand ∷ [])) ≡ times n (slots hs)
times-taken n hs i hand inside found = rw (← found) at (times-map-remove n (λ (h : Handle). h.slot) hs i hand inside)

pub times-places : (n : ℕ) (column pending_in : List Handle) (free : List ℕ) (hand : List Handle) → times n (places column pending_in free hand) ≡ times n (slots column) + times n (slots pending_in) + times n free + times n (slots hand)
times-places n column pending_in free hand =
    rw (times-append n (slots column ++ slots pending_in ++ free) (slots hand), times-append n (slots column ++ slots pending_in) free, times-append n (slots column) (slots pending_in)) refl

-- a slot that isn't in the list is none of its handles'
pub apart_from_times : (hs : List Handle) (slot : ℕ) → times slot (slots hs) ≡ 0 → All (λ (h : Handle). h.slot ≢ slot) hs
apart_from_times hs slot none = λ k d within same. absurd (omega (arith, none, times_map_at slot (λ (h : Handle). h.slot) hs k d within same))

-- a cell is in one place at most
pub once-most : (cells : List (Cell Row)) (free : List ℕ) (column pending_in pending_out hand : List Handle) (n : ℕ) → IsOwned cells free column pending_in pending_out hand → times n (places column pending_in free hand) ≤ 1
once-most cells free column pending_in pending_out hand n owned = rw (owned.once n) (at_most (ltb n (length cells)))
  where
    at_most : (b : Bool) → cond {A = ℕ} b 1 0 ≤ 1
    at_most true = omega arith
    at_most false = omega arith

-- a number that is anywhere is a cell's
pub once-within : (cells : List (Cell Row)) (free : List ℕ) (column pending_in pending_out hand : List Handle) (n : ℕ) → 0 < times n (places column pending_in free hand) → IsOwned cells free column pending_in pending_out hand → n < length cells
once-within cells free column pending_in pending_out hand n listed owned = elim (cases_lt n (length cells)) [
  | inl l ↦ l
  | inr l ↦ let none : times n (places column pending_in free hand) ≡ 0 = owned.once n ∙ rw (le-ltb n (length cells) l) refl in absurd (omega (arith, listed, none))
]

-- where the cell in hand is, and where not
pub record HandApart (cells : List (Cell Row)) (free : List ℕ) (column pending_in : List Handle) (slot : ℕ) : Type 0 where
  pub within : slot < length cells
  pub off_column : times slot (slots column) ≡ 0
  pub off_pending : times slot (slots pending_in) ≡ 0
  pub off_free : times slot free ≡ 0

pub hand_apart : (cells : List (Cell Row)) (free : List ℕ) (column pending_in pending_out : List Handle) (hand : Handle) → IsOwned cells free column pending_in pending_out (hand ∷ []) → HandApart cells free column pending_in hand.slot
hand_apart cells free column pending_in pending_out hand owned =
    let one = times_head hand.slot [] in
    let all = times-places hand.slot column pending_in free (hand ∷ []) in
    let most = once-most cells free column pending_in pending_out (hand ∷ []) hand.slot owned in
    record { within = once-within cells free column pending_in pending_out (hand ∷ []) hand.slot (omega arith) owned; off_column = omega arith; off_pending = omega arith; off_free = omega arith }
