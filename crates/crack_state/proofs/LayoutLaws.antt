-- How many cells, rows and places an intact store has, and that its layout is one.
use Rattle.std.proofs.Common.{◌≡◌, ◌≢◌, ℕ, ◌+◌, ◌-◌, ◌≤◌, List, [], ◌∷◌, ◌++◌, length, cond, Option, Some, None, refl, sym, ap, ◌∙◌, inl, inr, arith, length-append}
use Rattle.std.specs.Prelude.{◌==◌}
use Rattle.std.specs.List.{All, filter_map, range_with_len, sum_by}
use Rattle.std.proofs.lemmas.List.FromFn.{length-range_with_len}
use Rattle.std.proofs.lemmas.List.{length-map}
use Rattle.std.proofs.lemmas.List.Elements.{filter_map-append, All-append, All-head, All-tail}
use Rattle.std.proofs.lemmas.List.Sorted.{length_permutation}
use Rattle.std.proofs.lemmas.Bool.{cases_Bool, cases_eq, eq-eqb, ne_eqb}
use Rattle.crack_row.specs.declared.layout.Layout.{Layout}
use Rattle.crack_row.specs.declared.layout.PieceSize.{PieceSize}
use Rattle.crack_row.specs.Layouts.{IsLayout, AreJoined}
use Rattle.crack_arena.specs.Arena.{Handle, times, slots}
use Rattle.crack_arena.proofs.Times.{times-nil, times-cons, times_one, times_other, times_head, times-append, times-map-append}
use Rattle.crack_state.specs.State.{State, Reads, IsOwned, IsIntact, live_rows}
use Rattle.crack_state.proofs.CellLaws.{row_read}
use Rattle.crack_state.proofs.OwnedLaws.{places_of, times-places, once-most}
use Rattle.crack_state.proofs.LiveLaws.{live_read, live_among, live_rows-among, times-range, IsPermutation-times}

-- lists in which each number is equally often are equally long
pub length-times : (xs ys : List ℕ) → ((n : ℕ) → times n xs ≡ times n ys) → length xs ≡ length ys
length-times xs ys same = sym (length_permutation xs ys (IsPermutation-times xs ys same))

-- each cell has one place: column, pending insertions, free list and hand have as many as there are cells
pub cells-intact : (s : State) (hand : List Handle) → IsIntact s hand → length s.column + length s.pending_in + length s.free + length hand ≡ length s.cells
cells-intact s hand intact =
    let slot : Handle → ℕ = λ h. h.slot in
    let same = length-times (range_with_len 0 (length s.cells)) (places_of s hand) (λ n. times-range n (length s.cells) ∙ sym (intact.owned.once n)) in
    omega (arith, same, length-range_with_len 0 (length s.cells), length-append (slots s.column ++ slots s.pending_in ++ s.free) (slots hand), length-append (slots s.column ++ slots s.pending_in) s.free, length-append (slots s.column) (slots s.pending_in), length-map s.column slot, length-map s.pending_in slot, length-map hand slot)

-- a number that is among the doomed
abbrev if_doomed : List ℕ → ℕ → Option ℕ
if_doomed doomed n = cond (times n doomed == 0) None (Some n)

times-if_doomed : (doomed : List ℕ) (n : ℕ) (xs : List ℕ) → times n (filter_map (if_doomed doomed) xs) ≡ cond (times n doomed == 0) 0 (times n xs)
times-if_doomed doomed n [] = elim (cases_Bool (times n doomed == 0)) [ inl e ↦ rw e (times-nil n) | inr e ↦ rw e refl ]
times-if_doomed doomed n (x ∷ xs) =
    let rest = times-if_doomed doomed n xs in
    elim (cases_eq x n) [
      | inl same ↦ elim (cases_Bool (times n doomed == 0)) [
        | inl none ↦ rw (same, none) (rw none at rest)
        | inr some ↦ let there = rw some at rest in rw (same, some) (omega (arith, there, times_head n xs, times_head n (filter_map (if_doomed doomed) xs)))
      ]
      | inr ne ↦
          let skips : (ys : List ℕ) → times n (x ∷ ys) ≡ times n ys = λ ys. omega (arith, times-cons n x ys, times_one n x, times_other n x ne) in
          elim (cases_Bool (times x doomed == 0)) [ inl none ↦ rw (none, skips xs) rest | inr some ↦ rw (some, skips xs) (skips (filter_map (if_doomed doomed) xs) ∙ rest) ]
    ]

-- of the handles' rows, each is live or doomed
length-live_among : (s : State) (hs : List Handle) → All (Reads s.cells) hs → length (live_among s hs) + length (filter_map (if_doomed (slots s.pending_out)) (slots hs)) ≡ length hs
length-live_among s [] reads = refl
length-live_among s (h ∷ hs) reads =
    let rest = length-live_among s hs (All-tail (Reads s.cells) h hs reads) in
    elim (cases_eq (times h.slot (slots s.pending_out)) 0) [
      | inl e ↦ rw (eq-eqb (times h.slot (slots s.pending_out)) 0 e, (row_read s.cells h (All-head (Reads s.cells) h hs reads)).1) (omega (arith, rest))
      | inr ne ↦ rw (ne_eqb (times h.slot (slots s.pending_out)) 0 ne) (omega (arith, rest))
    ]

-- the doomed are as many as those among handles of which each doomed one is one
length-doomed : (s : State) (hs : List Handle) → ((n : ℕ) → times n (slots s.pending_out) ≢ 0 → times n (slots hs) ≡ times n (slots s.pending_out)) → length (filter_map (if_doomed (slots s.pending_out)) (slots hs)) ≡ length s.pending_out
length-doomed s hs same =
    let doomed = slots s.pending_out in
    length-times (filter_map (if_doomed doomed) (slots hs)) doomed (λ n. elim (cases_eq (times n doomed) 0) [
      | inl e ↦ times-if_doomed doomed n (slots hs) ∙ rw (eq-eqb (times n doomed) 0 e) (sym e)
      | inr ne ↦ times-if_doomed doomed n (slots hs) ∙ rw (ne_eqb (times n doomed) 0 ne) (same n ne)
    ]) ∙ length-map s.pending_out (λ (h : Handle). h.slot)

-- without a hand there are no more doomed rows than places in the column
pub pending_out-few : (s : State) → IsOwned s.cells s.free s.column s.pending_in s.pending_out [] → length s.pending_out ≤ length s.column
pending_out-few s owned =
    let same = length-doomed s s.column (λ n some. omega (arith, some, times-places n s.column s.pending_in s.free [], once-most s.cells s.free s.column s.pending_in s.pending_out [] n owned, owned.doomed_once n, times-append n (slots s.column) [], times-nil n)) in
    omega (arith, same, length-live_among s s.column owned.column_reads)

-- each row that column, pending insertions and hand hold is live or doomed
pub rows-intact : (s : State) (hand : List Handle) → IsIntact s hand → length (live_rows s) + length s.pending_out ≡ length s.column + length s.pending_in + length hand
rows-intact s hand intact =
    let owned = intact.owned in
    let slot : Handle → ℕ = λ h. h.slot in
    let hs = s.column ++ s.pending_in ++ hand in
    let reads = All-append (Reads s.cells) (s.column ++ s.pending_in) hand (All-append (Reads s.cells) s.column s.pending_in owned.column_reads owned.pending_reads) owned.hand_reads in
    let parts = live_among s s.column ++ live_among s s.pending_in ++ live_among s hand in
    let live : length parts ≡ length (live_rows s) = length_permutation (live_rows s) parts (live_rows-among s hand intact) in
    let split : live_among s hs ≡ parts = rw (filter_map-append (live_read s) (s.column ++ s.pending_in) hand, filter_map-append (live_read s) s.column s.pending_in) refl in
    let doomed = length-doomed s hs (λ n some. omega (arith, some, times-map-append n slot (s.column ++ s.pending_in) hand, times-map-append n slot s.column s.pending_in, times-places n s.column s.pending_in s.free hand, once-most s.cells s.free s.column s.pending_in s.pending_out hand n owned, owned.doomed_once n, times-append n (slots s.column) (slots hand))) in
    omega (arith, live, ap length split, length-live_among s hs reads, doomed, length-append (s.column ++ s.pending_in) hand, length-append s.column s.pending_in)

-- the layout that an intact store reports satisfies the layout equations, if its pieces do
pub IsLayout-intact : (s : State) (layout : Layout) → layout.column ≡ length s.column → layout.pending_in ≡ length s.pending_in → layout.pending_out ≡ length s.pending_out → layout.cells ≡ length s.cells → layout.free ≡ length s.free → layout.rows ≡ layout.column - layout.pending_out + layout.pending_in → sum_by (λ (p : PieceSize). p.size) layout.pieces ≡ length s.column → AreJoined s.keys.low s.keys.high layout.pieces → IsIntact s [] → IsLayout s.keys layout
IsLayout-intact s layout column pending_in pending_out cells free rows sizes joined intact = record {
  sizes = omega arith;
  cells = omega (arith, cells-intact s [] intact);
  rows = omega (arith, pending_out-few s intact.owned);
  joined = joined;
}
