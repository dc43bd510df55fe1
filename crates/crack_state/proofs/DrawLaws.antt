-- Where a doomed row is, as a pull comes nearer to it.
use Rattle.std.proofs.Common.{◌≡◌, ◌≢◌, ◌⊎◌, ℕ, zero, suc, ◌+◌, ◌-◌, ◌<◌, ◌≤◌, List, [], ◌∷◌, map, length, get_or, Option, Some, None, refl, sym, ap, ◌∙◌, inl, inr, arith, length-set}
use Rattle.std.specs.List.{All}
use Rattle.std.proofs.lemmas.Bool.Decides.{nat_tests}
use Rattle.std.proofs.lemmas.Bool.{cases_eq, cases_lt, eq-eqb, ne_eqb}
use Rattle.std.proofs.lemmas.List.{length-map, get_or-map, get_or_default, get_or-set_other, length-take-le}
use Rattle.std.proofs.lemmas.List.Elements.{All-contains, All-map}
use Rattle.crack_arena.specs.Arena.{Handle, StandsAt, IsAbsent, no_handle, times, slots, place_in}
use Rattle.crack_arena.specs.Rows.{key_at}
use Rattle.crack_arena.proofs.Times.{times-nil, times-cons, times_other, times_head, times-append, times-le-length, times_map_at}
use Rattle.crack_index.specs.declared.mark.Mark.{Mark}
use Rattle.crack_index.specs.Marks.{Rising, next_mark, last_mark, start_of, end_of, lowered, lowered_at}
use Rattle.crack_index.proofs.MarkLaws.{next_mark-is, last_mark-is}
use Rattle.crack_state.specs.State.{State, Carried, Reads, IsIntact}
use Rattle.crack_state.proofs.Words.{column_keys}
use Rattle.crack_state.specs.Steps.{hand_key, piece_start, piece_end, lower_last, IsDoomed, lifted_last, pulled_back}
use Rattle.crack_state.proofs.OwnedLaws.{times-places, once-most, hand_apart}
use Rattle.crack_state.proofs.CellLaws.{one_handle, stands_there}
use Rattle.crack_state.proofs.PieceLaws.{cases_Option, Divides-order, Divides-listed}
use Rattle.crack_state.proofs.PullLaws.{met_below}

-- a piece ends at or after a place where each bound above its key is there or after it
piece_end-least : (s : State) (key place : ℕ) → Rising s.marks → place ≤ length s.column → All (λ (m : Mark). key < m.bound.0 → place ≤ m.position) s.marks → place ≤ piece_end s key
piece_end-least s key place rising within behind = cases_Option (λ o. place ≤ end_of (length s.column) o) (next_mark key s.marks) (λ none. within) (λ m found.
    let is_next = next_mark-is key s.marks m rising found in
    All-contains (λ (n : Mark). key < n.bound.0 → place ≤ n.position) s.marks m behind is_next.listed is_next.above)

-- a piece begins at or before a place where each bound at or below its key is there or before it
pub piece_start-most : (s : State) (key place : ℕ) → Rising s.marks → All (λ (m : Mark). m.bound.0 ≤ key → m.position ≤ place) s.marks → piece_start s key ≤ place
piece_start-most s key place rising before = cases_Option (λ o. start_of o ≤ place) (last_mark key s.marks) (λ none. omega arith) (λ m found.
    let is_last = last_mark-is key s.marks m rising found in
    All-contains (λ (n : Mark). n.bound.0 ≤ key → n.position ≤ place) s.marks m before is_last.listed is_last.below)

-- a bound above the key of a row is after it
mark_behind : (s : State) (hand : List Handle) (k place : ℕ) (d : Mark) (met : Handle) → IsIntact s hand → k < length s.marks → place < length s.column → met ≡ get_or s.column place met → key_at s.cells met < (get_or s.marks k d).bound.0 → place < (get_or s.marks k d).position
mark_behind s hand k place d met intact listed within read above =
    elim (cases_lt place (get_or s.marks k d).position) [
      | inl l ↦ l
      | inr l ↦
          let at : get_or (column_keys s) place 0 ≡ key_at s.cells met = get_or-map (key_at s.cells) s.column place met 0 within ∙ ap (key_at s.cells) (sym read) in
          let high = (intact.obeyed k d listed).above place l (omega (arith, within, length-map s.column (key_at s.cells))) in
          absurd (omega (arith, high, at, above))
    ]

-- the piece of a key ends after each row of this key or a lower one
pub piece_end-behind : (s : State) (hand : List Handle) (key place : ℕ) (met : Handle) → IsIntact s hand → place < length s.column → met ≡ get_or s.column place met → key_at s.cells met ≤ key → place < piece_end s key
piece_end-behind s hand key place met intact within read below =
    piece_end-least s key (suc place) intact.rising (omega arith) (λ k d listed above. mark_behind s hand k place d met intact listed within read (omega arith))

-- the row that came into hand was in its own piece
pub record MetAt (c : Carried) (place : ℕ) : Type 0 where
  pub start : piece_start c.store (hand_key c) ≤ place
  pub end : place ≤ piece_end c.store (hand_key c)

pub MetAt-pulled_back : (c : Carried) → 0 < piece_start c.store (hand_key c) → IsIntact c.store (c.hand ∷ []) → IsIntact (pulled_back c).store ((pulled_back c).hand ∷ []) → MetAt (pulled_back c) (piece_start c.store (hand_key c) - 1)
MetAt-pulled_back c some intact after = by_last (last_mark (hand_key c) c.store.marks) refl
  where
    by_last : (last : Option Mark) → last_mark (hand_key c) c.store.marks ≡ last → MetAt (pulled_back c) (piece_start c.store (hand_key c) - 1)
    by_last None found = absurd (omega (arith, some, ap start_of found))
    by_last (Some m) found =
        let s = c.store in
        let place : piece_start s (hand_key c) ≡ m.position = ap start_of found in
        let is_last = last_mark-is (hand_key c) s.marks m intact.rising found in
        let divides = Divides-listed (column_keys s) s.marks m intact.obeyed is_last.listed in
        let within : m.position - 1 < length s.column = omega (arith, divides.within, length-map s.column (key_at s.cells), some, place) in
        let met = get_or s.column (m.position - 1) c.hand in
        let read : met ≡ get_or s.column (m.position - 1) met = get_or_default s.column (m.position - 1) c.hand met within in
        let below : key_at s.cells met < m.bound.0 = met_below s (hand_key c) m met intact.rising intact.obeyed found (omega (arith, some, place)) read in
        let marks : (pulled_back c).store.marks ≡ map (lowered m.bound.0 m.position) s.marks = ap (λ l. lower_last l s.marks) found in
        let hand : (pulled_back c).hand ≡ met = ap (λ n. get_or s.column (n - 1) c.hand) place in
        let key : hand_key (pulled_back c) ≡ key_at s.cells met = ap (key_at s.cells) hand in
        let start = piece_start-most (pulled_back c).store (hand_key (pulled_back c)) (m.position - 1) after.rising (rw (marks, key) (All-map (λ (n : Mark). n.bound.0 ≤ key_at s.cells met → n.position ≤ m.position - 1) (lowered m.bound.0 m.position) s.marks (λ k d h low.
        let n = get_or s.marks k d in
        let order : n.position ≤ m.position = Divides-order (column_keys s) n m (intact.obeyed k d h) divides (omega (arith, low, below)) in
        grind (arith, nat_tests)))) in
        let end = piece_end-least (pulled_back c).store (hand_key (pulled_back c)) (m.position - 1) after.rising (omega (arith, within, length-set s.column (piece_start s (hand_key c) - 1) c.hand)) (rw (marks, key) (All-map (λ (n : Mark). key_at s.cells met < n.bound.0 → m.position - 1 ≤ n.position) (lowered m.bound.0 m.position) s.marks (λ k d h high.
        let n = get_or s.marks k d in
        let behind = mark_behind s (c.hand ∷ []) k (m.position - 1) d met intact h within read high in
        grind (arith, nat_tests)))) in
        record { start = omega (arith, place, start); end = omega (arith, place, end) }

-- the own piece of the column's last row, once it is in hand, ends at the column's end
pub piece_end-lifted_last : (s : State) → 0 < length s.column → IsIntact s [] → IsIntact (lifted_last s).store ((lifted_last s).hand ∷ []) → length (lifted_last s).store.column ≤ piece_end (lifted_last s).store (hand_key (lifted_last s))
piece_end-lifted_last s some intact after =
    let last = (lifted_last s).hand in
    let within : length s.column - 1 < length s.column = omega arith in
    let read : last ≡ get_or s.column (length s.column - 1) last = get_or_default s.column (length s.column - 1) no_handle last within in
    let shorter : length (lifted_last s).store.column ≡ length s.column - 1 = length-take-le (length s.column - 1) s.column (omega arith) in
    piece_end-least (lifted_last s).store (hand_key (lifted_last s)) (length (lifted_last s).store.column) after.rising (omega arith)
    (All-map (λ (n : Mark). key_at s.cells last < n.bound.0 → length (lifted_last s).store.column ≤ n.position) (lowered_at (length s.column)) s.marks (λ k d h high.
    let n = get_or s.marks k d in
    let behind = mark_behind s [] k (length s.column - 1) d last intact h within read high in
    grind (arith, nat_tests)))

-- the slot of a handle that is in a list is counted there
counted : (hs : List Handle) (place : ℕ) (h : Handle) → StandsAt hs place h → 0 < times h.slot (slots hs)
counted hs place h stands = times_map_at h.slot (λ (x : Handle). x.slot) hs place h stands.within (ap (λ (x : Handle). x.slot) (sym stands.is))

-- a hand that is among the pending deletions is doomed
pub IsDoomed-listed : (c : Carried) (place : ℕ) (doomed : Handle) → StandsAt c.store.pending_out place doomed → c.hand ≡ doomed → IsDoomed c
IsDoomed-listed c place doomed stands e = rw e (counted c.store.pending_out place doomed stands)

-- a pending deletion that isn't in the column is the hand
pub doomed_is_hand : (c : Carried) (place : ℕ) (doomed : Handle) → IsIntact c.store (c.hand ∷ []) → StandsAt c.store.pending_out place doomed → IsAbsent c.store.column doomed → c.hand ≡ doomed
doomed_is_hand c place doomed intact stands absent =
    let s = c.store in
    let owned = intact.owned in
    let reads : Reads s.cells doomed = rw (sym stands.is) at (owned.doomed_reads place doomed stands.within) in
    let some = counted s.pending_out place doomed stands in
    elim (cases_eq c.hand.slot doomed.slot) [
      | inl e ↦ one_handle s.cells c.hand doomed (owned.hand_reads 0 c.hand (omega arith)) reads e
      | inr ne ↦
          absurd (absent (place_in s.column doomed.slot) (stands_there s.cells s.column doomed reads owned.column_reads (omega (arith, some, owned.doomed_once doomed.slot, times-append doomed.slot (slots s.column) (slots (c.hand ∷ [])), times_other doomed.slot c.hand.slot ne))))
    ]

-- a row of the column isn't the hand
pub hand_isnt : (c : Carried) (place : ℕ) (h : Handle) → IsIntact c.store (c.hand ∷ []) → StandsAt c.store.column place h → c.hand ≢ h
hand_isnt c place h intact stands = λ e.
    let s = c.store in
    let apart = hand_apart s.cells s.free s.column s.pending_in s.pending_out c.hand intact.owned in
    absurd (omega (arith, counted s.column place h stands, apart.off_column, ap (λ (x : Handle). times x.slot (slots s.column)) e))

-- if rows are doomed, the column has some
pub column_some : (s : State) → 0 < length s.pending_out → IsIntact s [] → 0 < length s.column
column_some s some intact =
    let first = get_or s.pending_out 0 no_handle in
    let stands : StandsAt s.pending_out 0 first = record { within = some; is = get_or_default s.pending_out 0 no_handle first some } in
    omega (arith, counted s.pending_out 0 first stands, intact.owned.doomed_once first.slot, times-append first.slot (slots s.column) [], times-nil first.slot, times-le-length first.slot (slots s.column), length-map s.column (λ (h : Handle). h.slot))

place_in-only : (hs : List Handle) (place slot : ℕ) (d : Handle) → place < length hs → (get_or hs place d).slot ≡ slot → times slot (slots hs) ≤ 1 → place_in hs slot ≡ place
place_in-only [] place slot d within found once = absurd (omega arith)
place_in-only (h ∷ hs) zero slot d within found once = rw (eq-eqb h.slot slot found) refl
place_in-only (h ∷ hs) (suc place) slot d within found once =
    let there = times_map_at slot (λ (x : Handle). x.slot) hs place d (omega arith) found in
    elim (cases_eq h.slot slot) [
      | inl e ↦ absurd (let twice : times slot (slots (h ∷ hs)) ≡ 1 + times slot (slots hs) = rw (← e) (times_head h.slot (slots hs)) in omega arith)
      | inr ne ↦
          let rest = place_in-only hs place slot d (omega arith) found (omega (arith, once, times-cons slot h.slot (slots hs))) in
          rw (ne_eqb h.slot slot ne) (omega (arith, rest))
    ]

-- a cell is doomed once at most
doomed_at_most_once : (s : State) (hand : List Handle) (slot : ℕ) → IsIntact s hand → times slot (slots s.pending_out) ≤ 1
doomed_at_most_once s hand slot intact =
    let owned = intact.owned in
    omega (arith, owned.doomed_once slot, once-most s.cells s.free s.column s.pending_in s.pending_out hand slot owned, times-places slot s.column s.pending_in s.free hand, times-append slot (slots s.column) (slots hand))

-- a pending deletion is struck where it is
pub place_in-doomed : (s : State) (hand : List Handle) (place : ℕ) (doomed : Handle) → IsIntact s hand → StandsAt s.pending_out place doomed → place_in s.pending_out doomed.slot ≡ place
place_in-doomed s hand place doomed intact stands =
    place_in-only s.pending_out place doomed.slot doomed stands.within (ap (λ (x : Handle). x.slot) (sym stands.is)) (doomed_at_most_once s hand doomed.slot intact)

-- the doomed row is the hand, or is before the end of the own piece of the hand
abbrev pub IsAhead : Carried → ℕ → Handle → Type 0
IsAhead c place doomed = ((c.hand ≡ doomed) × (piece_start c.store (hand_key c) ≤ place)) ⊎ (StandsAt c.store.column place doomed × (place < piece_end c.store (hand_key c)))

-- a step of a pull doesn't pass it by
pub IsAhead-pulled_back : (c : Carried) (place : ℕ) (doomed : Handle) → place < piece_start c.store (hand_key c) → IsIntact c.store (c.hand ∷ []) → IsIntact (pulled_back c).store ((pulled_back c).hand ∷ []) → IsAhead c place doomed → IsAhead (pulled_back c) place doomed
IsAhead-pulled_back c place doomed before intact after ahead = elim ahead [
  | inl is ↦ absurd (omega (arith, before, is.1))
  | inr stands ↦
      let s = c.store in
      let last = piece_start s (hand_key c) - 1 in
      let met = MetAt-pulled_back c (omega arith) intact after in
      elim (cases_eq place last) [
        | inl e ↦ inl (get_or_default_at s.column place last c.hand doomed e stands.0, omega (arith, met.start, e))
        | inr ne ↦ inr (record { within = omega (arith, stands.0.within, length-set s.column last c.hand); is = stands.0.is ∙ sym (get_or-set_other s.column last place c.hand doomed ne) }, omega (arith, met.end, before, ne))
      ]
]
  where
    get_or_default_at : (hs : List Handle) (place last : ℕ) (hand h : Handle) → place ≡ last → StandsAt hs place h → get_or hs last hand ≡ h
    get_or_default_at hs place last hand h e stands = rw (← e) (sym (stands.is ∙ get_or_default hs place h hand stands.within))
