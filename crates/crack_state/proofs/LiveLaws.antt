-- The rows that commands see, as cells get and lose rows and rows are doomed; they are those of column, pending insertions and hand.
use Rattle.std.proofs.Common.{◌≡◌, ◌≢◌, ℕ, zero, suc, ◌<◌, Bool, true, false, ltb, List, [], ◌∷◌, ◌++◌, length, get_or, set, cond, Option, Some, None, refl, sym, ap, ◌∙◌, inl, inr, arith, zero-add}
use Rattle.std.specs.Prelude.{◌==◌, if◌then◌else◌}
use Rattle.std.specs.List.{All, filter_map, range_with_len}
use Rattle.std.specs.List.Sorted.{IsPermutation}
use Rattle.std.specs.Option.{IfSome}
use Rattle.std.proofs.lemmas.List.Sorted.{IsPermutation-refl, IsPermutation-cons, IsPermutation-trans, IsPermutation-middle, IsPermutation-sym}
use Rattle.std.proofs.lemmas.List.{append-nil, get_or-set_same}
use Rattle.std.proofs.lemmas.List.Elements.{filter_map-append}
use Rattle.std.proofs.lemmas.Bool.Decides.{nat_tests}
use Rattle.std.proofs.lemmas.Bool.{eq-eqb, eqb-true, cases_eq, lt-ltb, le-ltb}
use Rattle.crack_row.proofs.Lists.{range_with_len-more, filter_map_agree, filter_map_none, filter_map-map, All-filter_map, IsPermutation-filter_map}
use Rattle.crack_row.specs.Ranges.{IsIn}
use Rattle.crack_row.specs.declared.Row.{Row}
use Rattle.crack_arena.specs.Arena.{Cell, Handle, times, read, cell_at, empty_cell, slots}
use Rattle.crack_arena.proofs.Times.{times-nil, times-cons, times_one, times_other, times_head, times_apart, times-append}
use Rattle.crack_state.specs.State.{State, Reads, IsOwned, IsIntact, live_at, live_rows}
use Rattle.crack_state.proofs.Words.{AreEmpty}
use Rattle.crack_state.proofs.OwnedLaws.{places_of}
use Rattle.crack_state.proofs.CellLaws.{AgreeOff, AgreeOff-set, read_is_value, read-value, cell_within}

-- what commands see of a handle: the row that it reads, unless that is doomed
abbrev pub live_read : State → Handle → Option Row
live_read s h = if times h.slot (slots s.pending_out) == 0 then read s.cells h else None

-- the live rows among those of the handles, in their order
abbrev pub live_among : State → List Handle → List Row
live_among s hs = filter_map (live_read s) hs

-- nothing, whatever the test returns: what a cell without a value shows, doomed or not
pub none_either : {X : Type 0} (b : Bool) → cond {A = Option X} b None None ≡ None
none_either true = refl
none_either false = refl

-- functions that agree but at a number which isn't in the list give the same
filter_map-off : {X : Type 0} (f g : ℕ → Option X) (n : ℕ) (ns : List ℕ) → ((k : ℕ) → k ≢ n → f k ≡ g k) → times n ns ≡ 0 → filter_map f ns ≡ filter_map g ns
filter_map-off f g n [] agree none = refl
filter_map-off f g n (m ∷ ms) agree none =
    let apart = times_apart n m ms none in
    rw (agree m apart.0, filter_map-off f g n ms agree apart.1) refl

-- a list split at an element
pub record Split (x : ℕ) (ys : List ℕ) : Type 0 where
  pub front : List ℕ
  pub back : List ℕ
  pub is : ys ≡ front ++ x ∷ back

pub split_at_member : (x : ℕ) (ys : List ℕ) → 0 < times x ys → Split x ys
split_at_member x [] some = absurd (omega (arith, times-nil x))
split_at_member x (y ∷ ys) some = elim (cases_eq y x) [
  | inl e ↦ record { front = []; back = ys; is = rw e refl }
  | inr ne ↦
      let rest = split_at_member x ys (omega (arith, times-cons x y ys, times_one x y, times_other x y ne)) in
      record { front = y ∷ rest.front; back = rest.back; is = ap (λ zs. y ∷ zs) rest.is }
]

-- if one function has a row at a number that is in the list once, the other has none there, and they agree at all others, that row is the difference
pub filter_map-less : (f g : ℕ → Option Row) (n : ℕ) (r : Row) (ns : List ℕ) → f n ≡ Some r → g n ≡ None → ((k : ℕ) → k ≢ n → f k ≡ g k) → times n ns ≡ 1 → IsPermutation (filter_map f ns) (r ∷ filter_map g ns)
filter_map-less f g n r ns had lacks agree once =
    let at = split_at_member n ns (omega (arith, once)) in
    let sums = times-append n at.front (n ∷ at.back) in
    let total : times n (at.front ++ n ∷ at.back) ≡ 1 = rw at.is at once in
    let front = filter_map-off f g n at.front agree (omega (arith, times_head n at.back)) in
    let back = filter_map-off f g n at.back agree (omega (arith, times_head n at.back)) in
    rw (at.is, filter_map-append f at.front (n ∷ at.back), filter_map-append g at.front (n ∷ at.back), had, lacks, front, back) (IsPermutation-middle (filter_map g at.front) r (filter_map g at.back))

-- lists in which each number is equally often are the same, in some order
pub IsPermutation-times : (xs ys : List ℕ) → ((n : ℕ) → times n xs ≡ times n ys) → IsPermutation xs ys
IsPermutation-times [] [] same = IsPermutation-refl []
IsPermutation-times [] (y ∷ ys) same = absurd (omega (arith, same y, times-nil y, times_head y ys))
IsPermutation-times (x ∷ xs) ys same =
    let split = split_at_member x ys (omega (arith, same x, times_head x xs)) in
    let rest = split.front ++ split.back in
    let fewer = IsPermutation-times xs rest (λ n. omega (arith, rw split.is at (same n), times-cons n x xs, times-append n split.front (x ∷ split.back), times-append n split.front split.back, times-cons n x split.back)) in
    rw split.is (IsPermutation-trans (x ∷ xs) (x ∷ rest) (split.front ++ x ∷ split.back) (IsPermutation-cons x xs rest fewer) (IsPermutation-sym (split.front ++ x ∷ split.back) (x ∷ rest) (IsPermutation-middle split.front x split.back)))

-- each number below n is once among the first n, and no other
pub times-range : (k n : ℕ) → times k (range_with_len 0 n) ≡ cond (ltb k n) 1 0
times-range k zero = rw (le-ltb k 0 (omega arith)) (times-nil k)
times-range k (suc n) = rw (range_with_len-more 0 n, zero-add) (times-append k (range_with_len 0 n) (n ∷ []) ∙ rw (times-range k n, times_one k n) (grind (arith, nat_tests)))

-- the cell with this number no longer shows a row; the others, and which of them are doomed, are as before
pub record Hides (cells after : List (Cell Row)) (doomed left : List ℕ) (slot : ℕ) : Type 0 where
  pub others : AgreeOff slot cells after
  pub kept : (n : ℕ) → n ≢ slot → times n left ≡ times n doomed
  pub none : live_at after left slot ≡ None

-- a cell that was emptied
pub Hides-emptied : (cells : List (Cell Row)) (doomed left : List ℕ) (slot g : ℕ) → slot < length cells → ((n : ℕ) → n ≢ slot → times n left ≡ times n doomed) → Hides cells (set cells slot (record { generation = g; value = None })) doomed left slot
Hides-emptied cells doomed left slot g within kept =
    let c : Cell Row = record { generation = g; value = None } in
    record { others = AgreeOff-set cells slot c; kept = kept; none = rw (get_or-set_same cells slot c empty_cell within) (none_either (times slot left == 0)) }

pub live_at-off : (cells after : List (Cell Row)) (doomed left : List ℕ) (slot n : ℕ) → Hides cells after doomed left slot → n ≢ slot → live_at cells doomed n ≡ live_at after left n
live_at-off cells after doomed left slot n hides ne = rw (hides.kept n ne, hides.others n ne) refl

-- the row that it showed is one less that commands see
pub live_rows-less : (s t : State) (slot : ℕ) (row : Row) → Hides s.cells t.cells (slots s.pending_out) (slots t.pending_out) slot → length t.cells ≡ length s.cells → slot < length s.cells → live_at s.cells (slots s.pending_out) slot ≡ Some row → IsPermutation (row ∷ live_rows t) (live_rows s)
live_rows-less s t slot row hides long within had =
    let before = live_at s.cells (slots s.pending_out) in
    let after = live_at t.cells (slots t.pending_out) in
    let once : times slot (range_with_len 0 (length s.cells)) ≡ 1 = times-range slot (length s.cells) ∙ rw (lt-ltb slot (length s.cells) within) refl in
    rw long (IsPermutation-sym (live_rows s) _ (filter_map-less before after slot row (range_with_len 0 (length s.cells)) had hides.none (λ k ne. live_at-off s.cells t.cells (slots s.pending_out) (slots t.pending_out) slot k hides ne) once))

-- what holds of each row that a handle reads and that isn't doomed holds of all that cells show
pub All-live_at : (P : Row → Type 0) (cells : List (Cell Row)) (doomed numbers : List ℕ) → ((h : Handle) (r : Row) → read cells h ≡ Some r → times h.slot doomed ≡ 0 → P r) → All P (filter_map (live_at cells doomed) numbers)
All-live_at P cells doomed numbers each = All-filter_map P (live_at cells doomed) numbers (λ n. by_value n (times n doomed == 0) (cell_at cells n).value refl refl)
  where
    by_value : (n : ℕ) (b : Bool) (o : Option Row) → (times n doomed == 0) ≡ b → (cell_at cells n).value ≡ o → IfSome (cond b o None) P
    by_value n false o kept is = tt
    by_value n true None kept is = tt
    by_value n true (Some r) kept is =
        let h : Handle = record { slot = n; generation = (cell_at cells n).generation } in
        each h r (rw (eq-eqb h.generation h.generation refl) is) (eqb-true (times n doomed) 0 kept)

-- what a function returns for the cells' numbers is, in some order, what it returns for those in all places
pub IsPermutation-places : {X : Type 0} (f : ℕ → Option X) (s : State) (hand : List Handle) → IsOwned s.cells s.free s.column s.pending_in s.pending_out hand → IsPermutation (filter_map f (range_with_len 0 (length s.cells))) (filter_map f (places_of s hand))
IsPermutation-places f s hand owned = IsPermutation-filter_map f (range_with_len 0 (length s.cells)) (places_of s hand) (IsPermutation-times (range_with_len 0 (length s.cells)) (places_of s hand) (λ n. times-range n (length s.cells) ∙ sym (owned.once n)))

live_among-slots : (s : State) (hs : List Handle) → All (Reads s.cells) hs → filter_map (live_at s.cells (slots s.pending_out)) (slots hs) ≡ live_among s hs
live_among-slots s hs reads =
    filter_map-map (live_at s.cells (slots s.pending_out)) (λ (h : Handle). h.slot) hs ∙ filter_map_agree (λ (h : Handle). live_at s.cells (slots s.pending_out) h.slot) (live_read s) hs (λ k d h. rw (read_is_value s.cells (get_or hs k d) (reads k d h)) refl)

live_at-free : (cells : List (Cell Row)) (doomed ns : List ℕ) → AreEmpty cells ns → filter_map (live_at cells doomed) ns ≡ []
live_at-free cells doomed ns empty = filter_map_none (live_at cells doomed) ns (λ k d h. rw (empty k d h) (none_either (times (get_or ns k d) doomed == 0)))

-- the rows that commands see are, in some order, those that column, pending insertions and hand hold, without the doomed ones
pub live_rows-among : (s : State) (hand : List Handle) → IsIntact s hand → IsPermutation (live_rows s) (live_among s s.column ++ live_among s s.pending_in ++ live_among s hand)
live_rows-among s hand intact =
    let owned = intact.owned in
    let live = live_at s.cells (slots s.pending_out) in
    let split : filter_map live (places_of s hand) ≡ live_among s s.column ++ live_among s s.pending_in ++ live_among s hand =
    rw (filter_map-append live (slots s.column ++ slots s.pending_in ++ s.free) (slots hand), filter_map-append live (slots s.column ++ slots s.pending_in) s.free, filter_map-append live (slots s.column) (slots s.pending_in), live_among-slots s s.column owned.column_reads, live_among-slots s s.pending_in owned.pending_reads, live_among-slots s hand owned.hand_reads, live_at-free s.cells (slots s.pending_out) s.free intact.empty, append-nil) refl in
    rw split at (IsPermutation-places live s hand owned)

-- the keys of the live rows are the partition's
pub live_rows-within : (s : State) → IsIntact s [] → All (λ (r : Row). IsIn s.keys r.key.0) (live_rows s)
live_rows-within s intact = All-live_at (λ (r : Row). IsIn s.keys r.key.0) s.cells (slots s.pending_out) (range_with_len 0 (length s.cells)) (λ h r reads kept.
    rw (read-value s.cells h r reads) at (intact.within h.slot empty_cell (cell_within s.cells h r reads)))
