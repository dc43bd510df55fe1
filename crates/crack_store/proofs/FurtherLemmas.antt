-- Where the sampled keys of a piece are, the further bound between the piece's ends, and the room for cracks beside the ends of a range.
use Rattle.std.proofs.Common.{◌≡◌, ◌⊎◌, ℕ, ◌+◌, ◌-◌, ◌*◌, ◌/◌, ◌<◌, ◌≤◌, ◌^◌, List, [], ◌∷◌, length, get_or, max, min, refl, sym, ap, subst, ◌∙◌, inl, inr, arith}
use Rattle.std.specs.List.{All}
use Rattle.std.specs.Option.{option_map}
use Rattle.std.proofs.Math.Nat.{mul-le-mul_right, div-lt_iff_lt-mul}
use Rattle.std.proofs.lemmas.Bool.{cases_lt, cases_eq}
use Rattle.std.proofs.lemmas.List.{length-map, get_or-map}
use Rattle.std.proofs.lemmas.List.Elements.{All-nil, All-cons, All-contains}
use Rattle.std.proofs.lemmas.List.Sorted.{All-permutation, length_permutation}
use Rattle.crack_row.specs.Ranges.{Range}
use Rattle.crack_arena.specs.Arena.{Handle, no_handle}
use Rattle.crack_arena.specs.Rows.{key_at}
use Rattle.crack_index.specs.declared.index.Piece.{Piece}
use Rattle.crack_index.specs.declared.mark.Mark.{Mark}
use Rattle.crack_index.specs.Marks.{HasBound, next_mark, last_mark, end_of}
use Rattle.crack_index.proofs.MarkLaws.{HasBound-mark, HasBound-contains, next_mark-is, last_mark-is, piece_order}
use Rattle.crack_state.specs.State.{State, IsIntact, live_rows}
use Rattle.crack_state.specs.Merge.{IsInner, IsCracked, Refines}
use Rattle.crack_state.proofs.Words.{column_keys}
use Rattle.crack_state.proofs.LayoutLaws.{cells-intact}
use Rattle.crack_state.proofs.PieceLaws.{cases_Option, Divides-listed, piece_end-le}
use Rattle.crack_state.proofs.CrackLaws.{column_keys-within, keys-refined, RefinesBy-refl, IsCracked-refined, live_rows-refined}
use Rattle.crack_store.specs.declared.cracking.Missing.{Missing}
use Rattle.crack_store.specs.declared.cracking.Missing.TheVariants.{Neither, One, Together, Apart}
use Rattle.crack_store.specs.Gaps.{Misses, HasRoomBeside, bounds_in}
use Rattle.crack_store.specs.Further.{IsMissing, bound_or_end, own_piece, sampled, samples, IsMiddle, FallsIntoLarge, IsFurther, CracksBeside, CracksFurther}
use Rattle.crack_store.proofs.CrackLemmas.{high_missing}
use Rattle.crack_store.proofs.EdgeLemmas.{positions_within}

-- The places of the sampled keys

-- the products from which they come
pub product-le : (n rows : ℕ) → n < 9 → (2 * n + 1) * rows ≤ 17 * rows
product-le n rows few = mul-le-mul_right rows (omega arith)

-- each is in the piece
pub place-lt : (n rows : ℕ) → n < 9 → 0 < rows → (2 * n + 1) * rows / 18 < rows
place-lt n rows few some = (div-lt_iff_lt-mul (omega arith)).1 (omega (arith, product-le n rows few))

-- a column is short
pub column-few : (s : State) (hand : List Handle) → IsIntact s hand → length s.column < 2 ^ 32
column-few s hand intact = omega (arith, cells-intact s hand intact, intact.few_cells)

-- Where a missing bound falls

-- its own piece begins and ends in the column
pub own_piece-order : (s : State) (hand : List Handle) (bound : ℕ) → IsIntact s hand → (own_piece s bound).from ≤ (own_piece s bound).to
own_piece-order s hand bound intact = piece_order bound (length s.column) s.marks intact.rising (positions_within s hand intact)

pub own_piece-within : (s : State) (hand : List Handle) (bound : ℕ) → IsIntact s hand → (own_piece s bound).to ≤ length s.column
own_piece-within s hand bound intact = piece_end-le s bound intact.rising intact.obeyed

-- and the bound is strictly between the piece's ends
pub low-lt : (s : State) (hand : List Handle) (bound : ℕ) → IsIntact s hand → IsMissing s bound → bound_or_end s.keys.low (own_piece s bound).low < bound
low-lt s hand bound intact missing = cases_Option (λ o. bound_or_end s.keys.low (option_map (λ (m : Mark). m.bound) o) < bound) (last_mark bound s.marks) (λ none. missing.low) (λ m found.
    let last = last_mark-is bound s.marks m intact.rising found in
    elim (cases_eq m.bound.0 bound) [
      | inl e ↦ absurd (missing.apart (rw e at (HasBound-mark s.marks m last.listed)))
      | inr ne ↦ omega (arith, last.below, ne)
    ])

pub high-gt : (s : State) (hand : List Handle) (bound : ℕ) → IsIntact s hand → IsMissing s bound → bound < bound_or_end s.keys.high (own_piece s bound).high
high-gt s hand bound intact missing = cases_Option (λ o. bound < bound_or_end s.keys.high (option_map (λ (m : Mark). m.bound) o)) (next_mark bound s.marks) (λ none. missing.high) (λ m found.
    (next_mark-is bound s.marks m intact.rising found).above)

-- The sampled keys

-- a key at a place before the piece's end is below the bound there
key-below : (s : State) (hand : List Handle) (bound place : ℕ) → IsIntact s hand → place < (own_piece s bound).to → key_at s.cells (get_or s.column place no_handle) < bound_or_end s.keys.high (own_piece s bound).high
key-below s hand bound place intact before = cases_Option (λ o. place < end_of (length s.column) o → key_at s.cells (get_or s.column place no_handle) < bound_or_end s.keys.high (option_map (λ (m : Mark). m.bound) o)) (next_mark bound s.marks)
    (λ none front.
    let is = get_or-map (key_at s.cells) s.column place no_handle 0 front in
    rw is at (column_keys-within s hand intact place 0 (omega (arith, length-map s.column (key_at s.cells)))).1)
    (λ m found front.
    let divides = Divides-listed (column_keys s) s.marks m intact.obeyed (next_mark-is bound s.marks m intact.rising found).listed in
    let is = get_or-map (key_at s.cells) s.column place no_handle 0 (omega (arith, divides.within, length-map s.column (key_at s.cells))) in
    rw is at (divides.below place front))
    before

sampled-below : (s : State) (hand : List Handle) (bound n : ℕ) → IsIntact s hand → n < 9 → 0 < (own_piece s bound).to - (own_piece s bound).from → sampled s (own_piece s bound) n < bound_or_end s.keys.high (own_piece s bound).high
sampled-below s hand bound n intact few some =
    let rows : ℕ = (own_piece s bound).to - (own_piece s bound).from in
    key-below s hand bound _ intact (omega (arith, place-lt n rows few some, own_piece-order s hand bound intact))

pub samples-below : (s : State) (hand : List Handle) (bound : ℕ) → IsIntact s hand → 0 < (own_piece s bound).to - (own_piece s bound).from → All (λ (key : ℕ). key < bound_or_end s.keys.high (own_piece s bound).high) (samples s (own_piece s bound))
samples-below s hand bound intact some =
    let Below : ℕ → Type 0 = λ key. key < bound_or_end s.keys.high (own_piece s bound).high in
    let key : ℕ → ℕ = λ n. sampled s (own_piece s bound) n in
    let one : (n : ℕ) → n < 9 → Below (key n) = λ n few. sampled-below s hand bound n intact few some in
    let from_8 : List ℕ = key 8 ∷ [] in
    let from_7 : List ℕ = key 7 ∷ from_8 in
    let from_6 : List ℕ = key 6 ∷ from_7 in
    let from_5 : List ℕ = key 5 ∷ from_6 in
    let from_4 : List ℕ = key 4 ∷ from_5 in
    let from_3 : List ℕ = key 3 ∷ from_4 in
    let from_2 : List ℕ = key 2 ∷ from_3 in
    let from_1 : List ℕ = key 1 ∷ from_2 in
    let below_8 = All-cons Below (key 8) [] (one 8 (omega arith)) (All-nil Below) in
    let below_7 = All-cons Below (key 7) from_8 (one 7 (omega arith)) below_8 in
    let below_6 = All-cons Below (key 6) from_7 (one 6 (omega arith)) below_7 in
    let below_5 = All-cons Below (key 5) from_6 (one 5 (omega arith)) below_6 in
    let below_4 = All-cons Below (key 4) from_5 (one 4 (omega arith)) below_5 in
    let below_3 = All-cons Below (key 3) from_4 (one 3 (omega arith)) below_4 in
    let below_2 = All-cons Below (key 2) from_3 (one 2 (omega arith)) below_3 in
    let below_1 = All-cons Below (key 1) from_2 (one 1 (omega arith)) below_2 in
    All-cons Below (key 0) from_1 (one 0 (omega arith)) below_1

-- keys that are sampled in a bound's own piece
pub keys-own : (s : State) (bound : ℕ) (piece : Piece) (keys : List ℕ) → keys ≡ samples s piece → piece ≡ own_piece s bound → keys ≡ samples s (own_piece s bound)
keys-own s bound piece keys are own = are ∙ ap (samples s) own

-- the middle of nine numbers below another is below it
pub middle-below : (numbers : List ℕ) (high middle : ℕ) → length numbers ≡ 9 → All (λ (n : ℕ). n < high) numbers → IsMiddle numbers middle → middle < high
middle-below numbers high middle nine below is =
    let all = All-permutation (λ (n : ℕ). n < high) numbers is.rising is.same below in
    rw is.is (all 4 0 (omega (arith, nine, length_permutation numbers is.rising is.same)))

-- the further bound is strictly between the piece's ends
pub further-is : (s : State) (hand : List Handle) (end middle further : ℕ) → IsIntact s hand → FallsIntoLarge s end → IsMiddle (samples s (own_piece s end)) middle → further ≡ max middle (bound_or_end s.keys.low (own_piece s end).low + 1) → IsFurther s end further
further-is s hand end middle further intact falls is_middle is =
    let low = low-lt s hand end intact falls.missing in
    let high = high-gt s hand end intact falls.missing in
    let below = middle-below (samples s (own_piece s end)) (bound_or_end s.keys.high (own_piece s end).high) middle refl (samples-below s hand end intact (omega (arith, falls.large))) is_middle in
    record {
      middle = middle;
      is_middle = is_middle;
      is = is;
      low = omega (arith, is);
      high = omega (arith, is, low, high, below);
    }

-- and so it is one of the partition's keys
pub further-within : (s : State) (hand : List Handle) (end further : ℕ) → IsIntact s hand → IsFurther s end further → further < s.keys.high
further-within s hand end further intact is = cases_Option (λ o. further < bound_or_end s.keys.high (option_map (λ (m : Mark). m.bound) o) → further < s.keys.high) (next_mark end s.marks) (λ none below. below) (λ m found below.
    let inner = All-contains (λ (x : Mark). (s.keys.low < x.bound.0) × (x.bound.0 < s.keys.high)) s.marks m intact.inside (next_mark-is end s.marks m intact.rising found).listed in
    omega (arith, inner.1, below)) is.high

-- The room for bounds

-- a bound that is missing after a crack was missing before it
missing-before : (s t : State) (r : Range) (bound : ℕ) → Refines s t r → IsMissing t bound → IsMissing s bound
missing-before s t r bound refines missing =
    let keys = keys-refined (IsInner s.keys r) s t refines in
    record {
      low = rw keys at missing.low;
      high = rw keys at missing.high;
      apart = λ has.
          let at = HasBound-contains s.marks bound has in
          missing.apart (rw at.2 at (HasBound-mark t.marks at.0 (refines.kept at.0 at.1)));
    }

-- a crack at an end of a range and at a further bound leaves as much room as is needed for what is missing then
pub room-after : (s t : State) (r : Range) (end further room left : ℕ) → (end ≡ r.low) ⊎ (end ≡ r.high) → HasRoomBeside s r room → IsMissing s end → Refines s t (record { low = min end further; high = max end further }) → room ≤ left + 2 → HasRoomBeside t r left
room-after s t r end further room left is_end before missing refines few =
    let ends : Range = record { low = min end further; high = max end further } in
    let there : IsMissing t end → ⊥ = λ m. m.apart (refines.added end (elim (cases_lt end further) [ inl l ↦ inl (omega arith) | inr l ↦ inr (omega arith) ], missing.low, missing.high)) in
    elim is_end [
      | inl e ↦
          let none : IsMissing t r.low → ⊥ = λ m. there (subst (IsMissing t) (sym e) m) in
          record {
            low = λ m. absurd (none m);
            high = λ m. omega (arith, before.both (subst (IsMissing s) e missing) (missing-before s t ends r.high refines m));
            both = λ m n. absurd (none m);
          }
      | inr e ↦
          let none : IsMissing t r.high → ⊥ = λ m. there (subst (IsMissing t) (sym e) m) in
          record {
            low = λ m. omega (arith, before.both (missing-before s t ends r.low refines m) (subst (IsMissing s) e missing));
            high = λ m. absurd (none m);
            both = λ m n. absurd (none n);
          }
    ]

-- at most two bounds are missing
pub bounds_in-few : (missing : Missing) → bounds_in missing ≤ 2
bounds_in-few Neither = omega arith
bounds_in-few (One gap) = omega arith
bounds_in-few (Together low high) = omega arith
bounds_in-few (Apart low high) = omega arith

-- and there is room for them
pub bounds_in-room : (s : State) (hand : List Handle) (r : Range) (missing : Missing) (room : ℕ) → IsIntact s hand → Misses s r missing → HasRoomBeside s r room → bounds_in missing ≤ room
bounds_in-room s hand r Neither room intact told has = omega arith
bounds_in-room s hand r (One gap) room intact told has = elim told.1 [
  | inl e ↦ omega (arith, has.low (subst (IsMissing s) e told.0.missing))
  | inr e ↦ omega (arith, has.high (subst (IsMissing s) e told.0.missing))
]
bounds_in-room s hand r (Together low high) room intact told has =
    let above = high_missing s hand low.bound.0 high.0 intact told.1.low.missing told.1.order told.1.below in
    omega (arith, has.both (subst (IsMissing s) told.0.0 told.1.low.missing) (subst (IsMissing s) told.0.1 above))
bounds_in-room s hand r (Apart low high) room intact told has =
    omega (arith, has.both (subst (IsMissing s) told.0.0 told.1.low.missing) (subst (IsMissing s) told.0.1 told.1.high.missing))

-- room for four bounds is enough
pub room-first : (s : State) (r : Range) (room : ℕ) → 4 ≤ room → HasRoomBeside s r room
room-first s r room enough = record { low = λ m. omega arith; high = λ m. omega arith; both = λ m n. enough }

-- Ends that are there already

-- none is missing
pub none-missing : (s : State) (r : Range) (missing : Missing) → Misses s r missing → bounds_in missing ≡ 0 → IsCracked s r
none-missing s r Neither told none = told
none-missing s r (One gap) told none = absurd (omega (arith, none))
none-missing s r (Together low high) told none = absurd (omega (arith, none))
none-missing s r (Apart low high) told none = absurd (omega (arith, none))

-- a range by whose ends a store is cracked isn't cracked further
pub CracksFurther-cracked : (s : State) (r : Range) → IsCracked s r → CracksFurther s s r
CracksFurther-cracked s r cracked = record {
  beside_low = s;
  beside_both = s;
  low = inr (λ little. little.0.missing.apart (cracked.0 little.0.missing.low little.0.missing.high), refl);
  high = inr (λ little. little.0.missing.apart (cracked.1 little.0.missing.low little.0.missing.high), refl);
  refines = RefinesBy-refl (IsInner s.keys r) s (λ b inner. elim inner.0 [ inl e ↦ subst (HasBound s.marks) (sym e) (cracked.0 (rw e at inner.1) (rw e at inner.2)) | inr e ↦ subst (HasBound s.marks) (sym e) (cracked.1 (rw e at inner.1) (rw e at inner.2)) ]);
}

-- the store is cracked by the range afterwards
pub IsCracked-further : (s t : State) (r : Range) → CracksFurther s t r → IsCracked t r
IsCracked-further s t r done = IsCracked-refined done.beside_both t r done.refines

-- commands see the same rows
live_rows-beside : (s t : State) (r : Range) (end : ℕ) → CracksBeside s t r end → live_rows t ≡ live_rows s
live_rows-beside s t r end beside = elim beside [
  | inl little ↦ live_rows-refined _ s t little.1.2
  | inr none ↦ ap live_rows none.1
]

pub live_rows-further : (s t : State) (r : Range) → CracksFurther s t r → live_rows t ≡ live_rows s
live_rows-further s t r done = live_rows-refined _ done.beside_both t done.refines ∙ live_rows-beside done.beside_low done.beside_both r r.high done.high ∙ live_rows-beside s done.beside_low r r.low done.low
