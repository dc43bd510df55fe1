-- When a range is settled, and the replies that its stretch of the column then gives.
use Rattle.std.proofs.Common.{◌≡◌, ◌⊎◌, ℕ, suc, ◌+◌, ◌-◌, ◌<◌, ◌≤◌, Bool, false, leb, ltb, List, [], ◌∷◌, ◌++◌, length, get_or, take, drop, cond, Option, None, refl, sym, ap, subst, ◌∙◌, inl, inr, arith}
use Rattle.std.specs.Prelude.{◌==◌}
use Rattle.std.specs.List.{All, filter_map, filter, between, count_by, range_with_len}
use Rattle.std.specs.List.Sorted.{IsPermutation}
use Rattle.std.proofs.lemmas.List.{append-nil, map-append, length-map, get_or-map, get_or-take, get_or-drop, length-take-le, length-drop}
use Rattle.std.proofs.lemmas.List.Elements.{filter_map-append, All-take, All-drop, All-head, All-tail}
use Rattle.std.proofs.lemmas.List.Edits.{split_between, get_or-between, length-between}
use Rattle.std.proofs.lemmas.List.Sorted.{length_permutation, sum_by-IsPermutation}
use Rattle.std.proofs.lemmas.List.Sums.{length-filter}
use Rattle.std.proofs.lemmas.Bool.{cases_Bool, cases_lt, lt-ltb, le-ltb, le-leb, lt-leb, and_left, and_right}
use Rattle.crack_row.proofs.Lists.{kept_by, filter-filter_map, filter_map_agree, filter_map_none, filter_map-map}
use Rattle.crack_row.specs.Ranges.{Range, in_range}
use Rattle.crack_row.specs.declared.Row.{Row}
use Rattle.crack_arena.specs.Arena.{Cell, Handle, times, read, slots, place_in}
use Rattle.crack_index.specs.Marks.{position_of}
use Rattle.crack_index.proofs.MarkLaws.{HasBound-contains, place_of-mark}
use Rattle.crack_arena.specs.Rows.{key_at}
use Rattle.crack_column.specs.Column.{IsDividedAt}
use Rattle.crack_column.proofs.Divisions.{IsDividedAt-end, IsDividedAt-order}
use Rattle.crack_state.specs.State.{State, Reads, IsOwned, IsIntact, live_at, live_rows}
use Rattle.crack_state.proofs.Words.{column_keys}
use Rattle.crack_state.proofs.OwnedLaws.{places_of}
use Rattle.crack_state.specs.Merge.{ReadsOutside, Stands, IsCracked, edge, stretch, IsSettled}
use Rattle.crack_state.proofs.CellLaws.{row_read, read-value, stands_there}
use Rattle.crack_state.proofs.LiveLaws.{none_either, IsPermutation-places}
use Rattle.crack_state.proofs.CrackLaws.{column_keys-within}
use Rattle.crack_state.proofs.PieceLaws.{Divides-listed}

-- a bound that is in the index, or is an end of the partition, divides the column at its place
pub edge-divides : (s : State) (hand : List Handle) (bound : ℕ) → IsIntact s hand → s.keys.low ≤ bound → bound ≤ s.keys.high → Stands s bound → IsDividedAt bound (column_keys s) (edge s bound)
edge-divides s hand bound intact above below stands =
    let all = column_keys-within s hand intact in
    elim (cases_lt s.keys.low bound) [
      | inl l ↦ elim (cases_lt bound s.keys.high) [
        | inl h ↦
            let at = HasBound-contains s.marks bound (stands l h) in
            let place : position_of bound s.marks ≡ at.0.position = rw at.2 at (place_of-mark s.marks at.0 intact.rising at.1) in
            rw (lt-leb bound s.keys.low l, lt-leb s.keys.high bound h, place) (rw at.2 at (Divides-listed (column_keys s) s.marks at.0 intact.obeyed at.1))
        | inr h ↦
            let same : bound ≡ s.keys.high = omega arith in
            rw (lt-leb bound s.keys.low l, le-leb s.keys.high bound h) (rw (length-map s.column (key_at s.cells)) at (IsDividedAt-end bound (column_keys s) (λ k d h'. omega (arith, (all k d h').1))))
      ]
      | inr l ↦ rw (le-leb bound s.keys.low l) (record { within = omega arith; below = λ k h. absurd (omega arith); above = λ k h j. omega (arith, (all k 0 j).0) })
    ]

filter-live_rows : (test : Row → Bool) (s : State) (hand : List Handle) → IsOwned s.cells s.free s.column s.pending_in s.pending_out hand → IsPermutation (filter test (live_rows s)) (filter_map (λ n. kept_by test (live_at s.cells (slots s.pending_out) n)) (places_of s hand))
filter-live_rows test s hand owned =
    let live = live_at s.cells (slots s.pending_out) in
    rw (filter-filter_map test live (range_with_len 0 (length s.cells))) (IsPermutation-places (λ n. kept_by test (live n)) s hand owned)

all_kept : (g : ℕ → Option Row) (cells : List (Cell Row)) (hs : List Handle) → All (λ (h : Handle). g h.slot ≡ read cells h) hs → filter_map g (slots hs) ≡ filter_map (read cells) hs
all_kept g cells hs same = filter_map-map g (λ (h : Handle). h.slot) hs ∙ filter_map_agree (λ (h : Handle). g h.slot) (read cells) hs same

-- a row outside the range doesn't pass the filter
pub outside_false : (r : Range) (row : Row) → (row.key.0 < r.low) ⊎ (r.high ≤ row.key.0) → in_range r row ≡ false
outside_false r row out = elim out [
  | inl l ↦ and_left (leb r.low row.key.0) (ltb row.key.0 r.high) (lt-leb r.low row.key.0 l)
  | inr l ↦ and_right (leb r.low row.key.0) (ltb row.key.0 r.high) (le-ltb row.key.0 r.high l)
]

kept_outside : (r : Range) (s : State) (h : Handle) → Reads s.cells h → ReadsOutside s.cells r h → kept_by (in_range r) (live_at s.cells (slots s.pending_out) h.slot) ≡ None
kept_outside r s h reads out =
    let row = row_read s.cells h reads in
    let outside = outside_false r row.0 (rw row.1 at out) in
    elim (cases_Bool (times h.slot (slots s.pending_out) == 0)) [ inl e ↦ rw (e, read-value s.cells h row.0 row.1, outside) refl | inr e ↦ rw e refl ]

none_outside : (r : Range) (s : State) (hs : List Handle) → All (Reads s.cells) hs → All (ReadsOutside s.cells r) hs → filter_map (λ n. kept_by (in_range r) (live_at s.cells (slots s.pending_out) n)) (slots hs) ≡ []
none_outside r s hs reads out =
    let g : ℕ → Option Row = λ n. kept_by (in_range r) (live_at s.cells (slots s.pending_out) n) in
    filter_map-map g (λ (h : Handle). h.slot) hs ∙ filter_map_none (λ (h : Handle). g h.slot) hs (λ k d h. kept_outside r s (get_or hs k d) (reads k d h) (out k d h))

kept_inside : (r : Range) (s : State) (h : Handle) → Reads s.cells h → r.low ≤ key_at s.cells h → key_at s.cells h < r.high → times h.slot (slots s.pending_out) ≡ 0 → kept_by (in_range r) (live_at s.cells (slots s.pending_out) h.slot) ≡ read s.cells h
kept_inside r s h reads above below kept =
    let row = row_read s.cells h reads in
    let low : r.low ≤ row.0.key.0 = rw row.1 at above in
    let high : row.0.key.0 < r.high = rw row.1 at below in
    rw (kept, row.1, read-value s.cells h row.0 row.1, le-leb r.low row.0.key.0 low, lt-ltb row.0.key.0 r.high high) refl

-- a row of the range isn't one of these if they are outside it
not_among : (cells : List (Cell Row)) (r : Range) (h : Handle) → Reads cells h → r.low ≤ key_at cells h → key_at cells h < r.high → (hs : List Handle) → All (Reads cells) hs → All (ReadsOutside cells r) hs → times h.slot (slots hs) ≡ 0
not_among cells r h reads above below hs all out = elim (cases_lt 0 (times h.slot (slots hs))) [
  | inl l ↦
      let stands = stands_there cells hs h reads all l in
      elim (subst (ReadsOutside cells r) (sym stands.is) (out (place_in hs h.slot) h stands.within)) [ inl l ↦ absurd (omega arith) | inr l ↦ absurd (omega arith) ]
  | inr l ↦ omega arith
]

-- what divides the keys divides the handles
record DividesRows (s : State) (bound place : ℕ) : Type 0 where
  within : place ≤ length s.column
  below : (k : ℕ) (d : Handle) → k < place → key_at s.cells (get_or s.column k d) < bound
  above : (k : ℕ) (d : Handle) → place ≤ k → k < length s.column → bound ≤ key_at s.cells (get_or s.column k d)

divides_rows : (s : State) (bound place : ℕ) → IsDividedAt bound (column_keys s) place → DividesRows s bound place
divides_rows s bound place divides =
    let len = length-map s.column (key_at s.cells) in
    record {
      within = omega (arith, divides.within);
      below = λ k d h. rw (← get_or-map (key_at s.cells) s.column k d 0 (omega (arith, divides.within))) (divides.below k h);
      above = λ k d h j. rw (← get_or-map (key_at s.cells) s.column k d 0 j) (divides.above k h (omega arith));
    }

-- the column between two places holds exactly the live rows of the range
holds_between : (s : State) (r : Range) (from to : ℕ) → from ≤ to → DividesRows s r.low from → DividesRows s r.high to → All (ReadsOutside s.cells r) s.pending_in → All (ReadsOutside s.cells r) s.pending_out → IsIntact s [] → IsPermutation (filter (in_range r) (live_rows s)) (filter_map (read s.cells) (between from to s.column))
holds_between s r from to order low high pending doomed intact =
    let owned = intact.owned in
    let g : ℕ → Option Row = λ n. kept_by (in_range r) (live_at s.cells (slots s.pending_out) n) in
    let front = take from s.column in
    let mid = between from to s.column in
    let back = drop to s.column in
    let whole : s.column ≡ front ++ (mid ++ back) = split_between s.column from to order in
    let front_none : filter_map g (slots front) ≡ [] = none_outside r s front (All-take (Reads s.cells) from s.column owned.column_reads) (λ k d h.
    rw (get_or-take from s.column k d (omega (arith, length-take-le from s.column (omega (arith, high.within))))) (inl (low.below k d (omega (arith, length-take-le from s.column (omega (arith, high.within))))))) in
    let mid_all : filter_map g (slots mid) ≡ filter_map (read s.cells) mid = all_kept g s.cells mid (λ k d h.
    let len : length mid ≡ to - from = length-between s.column from to high.within in
    let below : from + k < to = omega arith in
    let at : get_or mid k d ≡ get_or s.column (from + k) d = get_or-between s.column from to k d below in
    let reads = owned.column_reads (from + k) d (omega (arith, high.within)) in
    let above = low.above (from + k) d (omega arith) (omega (arith, high.within)) in
    let under = high.below (from + k) d below in
    rw at (kept_inside r s (get_or s.column (from + k) d) reads above under (not_among s.cells r (get_or s.column (from + k) d) reads above under s.pending_out owned.doomed_reads doomed))) in
    let back_none : filter_map g (slots back) ≡ [] = none_outside r s back (All-drop (Reads s.cells) to s.column owned.column_reads) (λ k d h.
    rw (get_or-drop to s.column k d) (inr (high.above (to + k) d (omega arith) (omega (arith, length-drop to s.column))))) in
    let pending_none : filter_map g (slots s.pending_in) ≡ [] = none_outside r s s.pending_in owned.pending_reads pending in
    let free_none : filter_map g s.free ≡ [] = filter_map_none g s.free (λ k d h. rw (intact.empty k d h, none_either (times (get_or s.free k d) (slots s.pending_out) == 0)) refl) in
    let slot : Handle → ℕ = λ h. h.slot in
    let column : filter_map g (slots s.column) ≡ filter_map (read s.cells) mid =
    ap (λ hs. filter_map g (slots hs)) whole ∙ rw (map-append slot front (mid ++ back), map-append slot mid back, filter_map-append g (slots front) (slots mid ++ slots back), filter_map-append g (slots mid) (slots back), front_none, mid_all, back_none, append-nil) refl in
    let all : filter_map g (places_of s []) ≡ filter_map (read s.cells) mid =
    rw (append-nil, filter_map-append g (slots s.column ++ slots s.pending_in) s.free, filter_map-append g (slots s.column) (slots s.pending_in), column, pending_none, free_none, append-nil (filter_map (read s.cells) mid ++ []), append-nil (filter_map (read s.cells) mid)) refl in
    rw all at (filter-live_rows (in_range r) s [] owned)

-- a range that was cracked is settled, once no pending row of either column has its key in it
pub IsSettled-of : (s : State) (r : Range) → r.low ≤ r.high → s.keys.low ≤ r.low → r.high ≤ s.keys.high → IsCracked s r → All (ReadsOutside s.cells r) s.pending_in → All (ReadsOutside s.cells r) s.pending_out → IsIntact s [] → IsSettled s r
IsSettled-of s r order low high cracked pending doomed intact =
    let low_divides = edge-divides s [] r.low intact low (omega arith) cracked.0 in
    let high_divides = edge-divides s [] r.high intact (omega arith) high cracked.1 in
    let low_rows = divides_rows s r.low (edge s r.low) low_divides in
    let high_rows = divides_rows s r.high (edge s r.high) high_divides in
    let rising : edge s r.low ≤ edge s r.high = IsDividedAt-order r.low r.high (column_keys s) (edge s r.low) (edge s r.high) order low_divides high_divides in
    record {
      cracked = cracked;
      pending = pending;
      doomed = doomed;
      order = rising;
      within = high_rows.within;
      reads = λ k d h.
          let len : length (stretch s r) ≡ edge s r.high - edge s r.low = length-between s.column (edge s r.low) (edge s r.high) high_rows.within in
          let below : edge s r.low + k < edge s r.high = omega arith in
          rw (get_or-between s.column (edge s r.low) (edge s r.high) k d below) (intact.owned.column_reads (edge s r.low + k) d (omega (arith, high_rows.within)));
      holds = holds_between s r (edge s r.low) (edge s r.high) rising low_rows high_rows pending doomed intact;
    }

-- as many rows as handles that read
pub length-read : (cells : List (Cell Row)) (hs : List Handle) → All (Reads cells) hs → length (filter_map (read cells) hs) ≡ length hs
length-read cells [] reads = refl
length-read cells (h ∷ hs) reads =
    let row = row_read cells h (All-head (Reads cells) h hs reads) in
    rw row.1 (ap suc (length-read cells hs (All-tail (Reads cells) h hs reads)))

-- a settled range has as many places as a list of the same rows has rows of the range
pub count-settled : (s : State) (r : Range) (plain : List Row) → IsSettled s r → IsPermutation (live_rows s) plain → edge s r.high - edge s r.low ≡ count_by (in_range r) plain
count-settled s r plain settled same =
    let size : length (filter_map (read s.cells) (stretch s r)) ≡ edge s r.high - edge s r.low = length-read s.cells (stretch s r) settled.reads ∙ length-between s.column (edge s r.low) (edge s r.high) settled.within in
    let counted : length (filter_map (read s.cells) (stretch s r)) ≡ length (filter (in_range r) (live_rows s)) = length_permutation (filter (in_range r) (live_rows s)) (filter_map (read s.cells) (stretch s r)) settled.holds in
    let live : length (filter (in_range r) (live_rows s)) ≡ count_by (in_range r) (live_rows s) = length-filter (in_range r) (live_rows s) in
    let both : count_by (in_range r) plain ≡ count_by (in_range r) (live_rows s) = sum_by-IsPermutation (λ x. cond (in_range r x) 1 0) (live_rows s) plain same in
    sym size ∙ counted ∙ live ∙ sym both
