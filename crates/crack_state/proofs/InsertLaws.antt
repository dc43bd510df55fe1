-- A new row at the end of the pending insertions keeps a store intact, and is the only row that commands see in addition.
use Rattle.std.proofs.Common.{◌≡◌, ◌≢◌, ℕ, ◌+◌, ◌<◌, ◌≤◌, ◌^◌, Bool, true, false, eqb, ltb, List, [], ◌∷◌, ◌++◌, length, get_or, drop, add-one, cond, Some, None, refl, sym, ap, ◌∙◌, inl, inr, arith, length-set, zero-add}
use Rattle.std.specs.Prelude.{◌==◌, IfSome}
use Rattle.std.specs.List.{All, filter_map, range_with_len}
use Rattle.std.specs.List.Sorted.{IsPermutation}
use Rattle.std.proofs.lemmas.List.Sorted.{IsPermutation-sym}
use Rattle.std.proofs.lemmas.List.Sums.{sum_by-set, sum_by_push}
use Rattle.std.proofs.lemmas.List.{append-nil, get_or-set_other, get_or-set_same, get_or_past, get_or_push, get_or_append_left, length_push}
use Rattle.std.proofs.lemmas.List.Elements.{filter_map-append, All-nil, All-push, All-set, All-head, All-tail}
use Rattle.std.proofs.lemmas.Bool.Decides.{nat_tests}
use Rattle.std.proofs.lemmas.Bool.{cases_eq, cases_lt, ne_eqb, eq-eqb, eqb-true, lt-ltb, le-ltb}
use Rattle.crack_row.proofs.Lists.{map_fixed, range_with_len-more}
use Rattle.crack_row.specs.Ranges.{IsIn}
use Rattle.crack_row.specs.declared.Row.{Row}
use Rattle.crack_arena.specs.declared.TheConstants.{MOST_CELLS}
use Rattle.crack_arena.specs.Arena.{Cell, Handle, times, read, cell_at, empty_cell, handle_for, cells_with, slots}
use Rattle.crack_arena.proofs.Times.{times-nil, times-cons, times_one, times_head, times-append, times-map-append, times_map_at}
use Rattle.crack_serials.proofs.Laws.{Maps-placed}
use Rattle.crack_state.specs.State.{State, Reads, IsOwned, IsIntact, IsKeyed, freed_of, live_at, live_rows}
use Rattle.crack_state.proofs.Words.{IsLiveAt, is_live, AreEmpty, HaveKeysIn}
use Rattle.crack_state.specs.Steps.{next_handle, row_inserted, IsInsertable}
use Rattle.crack_serials.specs.Serials.{handle_of, Maps}
use Rattle.crack_state.proofs.OwnedLaws.{places_of, times-places, once-most, once-within}
use Rattle.crack_state.proofs.CellLaws.{AgreeOff, handle_same, read-off, Reads-off, keys-off, read-value}
use Rattle.crack_state.proofs.LiveLaws.{filter_map-less, times-range}
use Rattle.crack_state.proofs.KeyedLaws.{maps_other, maps_this}

-- one cell got a value, and no other changed
pub record Filled (cells after : List (Cell Row)) (h : Handle) (r : Row) : Type 0 where
  pub cell : cell_at after h.slot ≡ record { generation = h.generation; value = Some r }
  pub others : AgreeOff h.slot cells after

-- no list but that of the free numbers has the number
pub record IsUnused (s : State) (slot : ℕ) : Type 0 where
  pub column : times slot (slots s.column) ≡ 0
  pub pending : times slot (slots s.pending_in) ≡ 0
  pub doomed : times slot (slots s.pending_out) ≡ 0

-- a free number is that of a cell
free_within : (s : State) (n : ℕ) → 0 < times n s.free → IsOwned s.cells s.free s.column s.pending_in s.pending_out [] → n < length s.cells
free_within s n listed owned = once-within s.cells s.free s.column s.pending_in s.pending_out [] n (omega (arith, listed, times-places n s.column s.pending_in s.free [])) owned

pub filled : (s : State) (r : Row) (free : List ℕ) → s.free ≡ free → IsOwned s.cells s.free s.column s.pending_in s.pending_out [] → Filled s.cells (cells_with r s.cells free) (handle_for s.cells free) r
filled s r [] is owned =
    let c : Cell Row = record { generation = 0; value = Some r } in
    record {
      cell = get_or_push s.cells c empty_cell (length s.cells) refl;
      others = λ m ne. elim (cases_lt m (length s.cells)) [
        | inl l ↦ get_or_append_left s.cells (c ∷ []) empty_cell m l
        | inr l ↦ get_or_past (s.cells ++ c ∷ []) m empty_cell (omega (arith, length_push s.cells c, ne)) ∙ sym (get_or_past s.cells m empty_cell l)
      ];
    }
filled s r (n ∷ ns) is owned =
    let c : Cell Row = record { generation = (cell_at s.cells n).generation; value = Some r } in
    let within = free_within s n (rw is (omega (arith, times_head n ns))) owned in
    record {
      cell = get_or-set_same s.cells n c empty_cell within;
      others = λ m ne. get_or-set_other s.cells n m c empty_cell ne;
    }

pub unused : (s : State) (free : List ℕ) → s.free ≡ free → IsOwned s.cells s.free s.column s.pending_in s.pending_out [] → IsUnused s (handle_for s.cells free).slot
unused s [] is owned =
    let n = length s.cells in
    let none : times n (places_of s []) ≡ 0 = owned.once n ∙ rw (le-ltb n n (omega arith)) refl in
    let all = times-places n s.column s.pending_in s.free [] in
    record { column = omega arith; pending = omega arith; doomed = omega (arith, owned.doomed_once n, times-append n (slots s.column) [], times-nil n) }
unused s (n ∷ ns) is owned =
    let listed : 0 < times n s.free = rw is (omega (arith, times_head n ns)) in
    let most = once-most s.cells s.free s.column s.pending_in s.pending_out [] n owned in
    let all = times-places n s.column s.pending_in s.free [] in
    record { column = omega arith; pending = omega arith; doomed = omega (arith, owned.doomed_once n, times-append n (slots s.column) [], times-nil n) }

pub read-new : (cells after : List (Cell Row)) (h : Handle) (r : Row) → Filled cells after h r → read after h ≡ Some r
read-new cells after h r fill = rw (fill.cell, eq-eqb h.generation h.generation refl) refl

pub record SameHandle (g h : Handle) (q r : Row) : Type 0 where
  pub handle : g ≡ h
  pub row : q ≡ r

pub read_same : (cells after : List (Cell Row)) (h g : Handle) (r q : Row) → Filled cells after h r → g.slot ≡ h.slot → read after g ≡ Some q → SameHandle g h q r
read_same cells after h g r q fill e found =
    let at : cell_at after g.slot ≡ record { generation = h.generation; value = Some r } = ap (cell_at after) e ∙ fill.cell in
    by_test (eqb h.generation g.generation) refl (rw at at found)
  where
    by_test : (b : Bool) → eqb h.generation g.generation ≡ b → cond b (Some r) None ≡ Some q → SameHandle g h q r
    by_test true equal is = record { handle = handle_same g h e (sym (eqb-true h.generation g.generation equal)); row = cc }
    by_test false equal is = absurd (cc)

once_filled : (s : State) (r : Row) (free : List ℕ) → s.free ≡ free → IsOwned s.cells s.free s.column s.pending_in s.pending_out [] → (n : ℕ) → times n (slots s.column) + times n (slots s.pending_in) + times n ((handle_for s.cells free).slot ∷ []) + times n (drop 1 free) ≡ cond (ltb n (length (cells_with r s.cells free))) 1 0
once_filled s r [] is owned n =
    let free_none : times n s.free ≡ 0 = rw is (times-nil n) in
    let before : times n (slots s.column) + times n (slots s.pending_in) ≡ cond (ltb n (length s.cells)) 1 0 = omega (arith, owned.once n, times-places n s.column s.pending_in s.free [], times-nil n) in
    rw (length_push s.cells (record { generation = 0; value = Some r }), times_one n (length s.cells), times-nil n, before) (grind (arith, nat_tests))
once_filled s r (m ∷ ns) is owned n =
    let c : Cell Row = record { generation = (cell_at s.cells m).generation; value = Some r } in
    let free_is : times n s.free ≡ times n (m ∷ ns) = ap (times n) is in
    rw (length-set s.cells m c) (omega (arith, owned.once n, times-places n s.column s.pending_in s.free [], free_is, times-cons n m ns, times_one n m, times-nil n))

-- the cell that the next row gets has no row now
pub vacant : (s : State) (free : List ℕ) → s.free ≡ free → AreEmpty s.cells s.free → (cell_at s.cells (handle_for s.cells free).slot).value ≡ None
vacant s [] is empty = ap (λ (c : Cell Row). c.value) (get_or_past s.cells (length s.cells) empty_cell (omega arith))
vacant s (n ∷ ns) is empty = All-head (λ m. (cell_at s.cells m).value ≡ None) n ns (rw is at empty)

-- a row is inserted: an empty cell gets it, and its serial leads there
pub IsKeyed-more : (cells after : List (Cell Row)) (doomed : List ℕ) (serials later : List (ℕ × Handle)) (h : Handle) (row : Row) → Filled cells after h row → times h.slot doomed ≡ 0 → (cell_at cells h.slot).value ≡ None → handle_of serials row.serial.0 ≡ None → Maps row.serial.0 (Some h) serials later → IsKeyed cells doomed serials → IsKeyed after doomed later
IsKeyed-more cells after doomed serials later h row fill off empty fresh maps keyed = record {
  leads = λ p g found. elim (cases_eq row.serial.0 p) [
    | inl e ↦
        let new = maps_this row.serial.0 p (Some h) serials later maps e in
        let same : h ≡ g = cc in
        (row, rw (← same) (read-new cells after h row fill), e, rw (← same) off)
    | inr ne ↦
        let live : IsLiveAt cells doomed p g = is_live cells doomed p g (keyed.leads p g (sym (maps_other row.serial.0 p (Some h) serials later maps ne) ∙ found)) in
        let apart : g.slot ≢ h.slot = λ e.
        let value = read-value cells g live.row live.reads in
        let at : (cell_at cells g.slot).value ≡ (cell_at cells h.slot).value = ap (λ (n : ℕ). (cell_at cells n).value) e in
        absurd (cc) in
        (live.row, read-off h.slot cells after g fill.others apart ∙ live.reads, live.same, live.kept)
  ];
  lists = λ g q found kept. elim (cases_eq g.slot h.slot) [
    | inl e ↦
        let same = read_same cells after h g row q fill e found in
        rw (same.handle, same.row) (maps_this row.serial.0 row.serial.0 (Some h) serials later maps refl)
    | inr ne ↦
        let old = keyed.lists g q (sym (read-off h.slot cells after g fill.others ne) ∙ found) kept in
        let differs : row.serial.0 ≢ q.serial.0 = λ e. let a = ap (handle_of serials) e in absurd (cc) in
        maps_other row.serial.0 q.serial.0 (Some h) serials later maps differs ∙ old
  ];
}

-- numbers that aren't in a list aren't its elements
pub apart_numbers : (ns : List ℕ) (n : ℕ) → times n ns ≡ 0 → All (λ m. m ≢ n) ns
apart_numbers ns n none = λ k d within same.
    let listed = rw (map_fixed (λ (m : ℕ). m) ns (λ j c i. refl)) at (times_map_at n (λ (m : ℕ). m) ns k d within same) in
    absurd (omega (arith, none, listed))

AreEmpty-row_inserted : (row : Row) (s : State) (free : List ℕ) → s.free ≡ free → IsOwned s.cells s.free s.column s.pending_in s.pending_out [] → AreEmpty s.cells s.free → AreEmpty (cells_with row s.cells free) (drop 1 free)
AreEmpty-row_inserted row s [] is owned empty = All-nil (λ m. (cell_at (cells_with row s.cells []) m).value ≡ None)
AreEmpty-row_inserted row s (n ∷ ns) is owned empty =
    let most = once-most s.cells s.free s.column s.pending_in s.pending_out [] n owned in
    let listed : times n s.free ≡ 1 + times n ns = rw is (times_head n ns) in
    let none : times n ns ≡ 0 = omega (arith, times-places n s.column s.pending_in s.free []) in
    let fill = filled s row (n ∷ ns) is owned in
    let old : AreEmpty s.cells ns = All-tail (λ m. (cell_at s.cells m).value ≡ None) n ns (rw is at empty) in
    λ k d h. rw (fill.others (get_or ns k d) (apart_numbers ns n none k d h)) (old k d h)

HaveKeysIn-row_inserted : (row : Row) (s : State) (free : List ℕ) → IsIn s.keys row.key.0 → HaveKeysIn s.keys s.cells → HaveKeysIn s.keys (cells_with row s.cells free)
HaveKeysIn-row_inserted row s [] new within = All-push (λ (c : Cell Row). IfSome c.value (λ r. IsIn s.keys r.key.0)) s.cells (record { generation = 0; value = Some row }) within new
HaveKeysIn-row_inserted row s (n ∷ ns) new within = All-set (λ (c : Cell Row). IfSome c.value (λ r. IsIn s.keys r.key.0)) s.cells n (record { generation = (cell_at s.cells n).generation; value = Some row }) new within

-- no cell is freed
freed_of-row_inserted : (row : Row) (s : State) (free : List ℕ) → s.free ≡ free → IsOwned s.cells s.free s.column s.pending_in s.pending_out [] → freed_of (cells_with row s.cells free) ≡ freed_of s.cells
freed_of-row_inserted row s [] is owned = omega (arith, sum_by_push (λ (c : Cell Row). c.generation) s.cells (record { generation = 0; value = Some row }))
freed_of-row_inserted row s (n ∷ ns) is owned =
    let within = free_within s n (rw is (omega (arith, times_head n ns))) owned in
    omega (arith, sum_by-set (λ (c : Cell Row). c.generation) s.cells n (record { generation = (cell_at s.cells n).generation; value = Some row }) empty_cell within)

-- one more cell only if none was free
length_cells-row_inserted : (row : Row) (s : State) (free : List ℕ) → s.free ≡ free → length s.cells < MOST_CELLS + length s.free → length s.cells < 2 ^ 32 → length (cells_with row s.cells free) < 2 ^ 32
length_cells-row_inserted row s [] is room few = omega (arith, ap length is, length_push s.cells (record { generation = 0; value = Some row }))
length_cells-row_inserted row s (n ∷ ns) is room few = omega (arith, length-set s.cells n (record { generation = (cell_at s.cells n).generation; value = Some row }))

-- the store after a new row, whatever its map looks like
pub IsIntact-grown : (row : Row) (s t : State) → t ≡ record (row_inserted row s) { serials = t.serials; in_room = t.in_room } → Maps row.serial.0 (Some (next_handle s)) s.serials t.serials → IsInsertable row s → IsIntact s [] → IsIntact t []
IsIntact-grown row s t same maps may intact =
    let owned = intact.owned in
    let h = next_handle s in
    let cells = cells_with row s.cells s.free in
    let fill : Filled s.cells cells h row = filled s row s.free refl owned in
    let off : IsUnused s h.slot = unused s s.free refl owned in
    rw same (record {
      owned = record {
        once = λ n. omega (arith, once_filled s row s.free refl owned n, times-places n s.column (s.pending_in ++ h ∷ []) (drop 1 s.free) [], times-map-append n (λ (x : Handle). x.slot) s.pending_in (h ∷ []), times-nil n);
        column_reads = Reads-off h.slot s.cells cells s.column fill.others off.column owned.column_reads;
        pending_reads = All-push (Reads cells) s.pending_in h (Reads-off h.slot s.cells cells s.pending_in fill.others off.pending owned.pending_reads) (rw (read-new s.cells cells h row fill) refl);
        hand_reads = All-nil (Reads cells);
        doomed_reads = Reads-off h.slot s.cells cells s.pending_out fill.others off.doomed owned.doomed_reads;
        doomed_once = owned.doomed_once;
      };
      obeyed = rw (keys-off h.slot s.cells cells s.column fill.others off.column) intact.obeyed;
      rising = intact.rising;
      inside = intact.inside;
      keyed = IsKeyed-more s.cells cells (slots s.pending_out) s.serials t.serials h row fill off.doomed (vacant s s.free refl intact.empty) may.fresh maps intact.keyed;
      empty = AreEmpty-row_inserted row s s.free refl owned intact.empty;
      within = HaveKeysIn-row_inserted row s s.free may.within intact.within;
      few_cells = length_cells-row_inserted row s s.free refl may.cell intact.few_cells;
      few_freed = omega (arith, intact.few_freed, freed_of-row_inserted row s s.free refl owned);
      counted = intact.counted;
    })

pub IsIntact-row_inserted : (row : Row) (s : State) → IsInsertable row s → IsIntact s [] → IsIntact (row_inserted row s) []
IsIntact-row_inserted row s may intact = IsIntact-grown row s (row_inserted row s) refl (Maps-placed row.serial.0 (next_handle s) s.serials may.fresh) may intact

-- commands also see the inserted row
pub live_rows-row_inserted : (row : Row) (s : State) → IsIntact s [] → IsPermutation (row ∷ live_rows s) (live_rows (row_inserted row s))
live_rows-row_inserted row s intact = by_free s.free refl
  where
    doomed : List ℕ
    doomed = slots s.pending_out

    -- among the numbers of which that of the new row's cell is one, once
    among : (free ns : List ℕ) → s.free ≡ free → times (handle_for s.cells free).slot ns ≡ 1 → IsPermutation (filter_map (live_at (cells_with row s.cells free) doomed) ns) (row ∷ filter_map (live_at s.cells doomed) ns)
    among free ns is once =
        let slot = (handle_for s.cells free).slot in
        let off : IsUnused s slot = unused s free is intact.owned in
        let fill = filled s row free is intact.owned in
        filter_map-less (live_at (cells_with row s.cells free) doomed) (live_at s.cells doomed) slot row ns (rw (off.doomed, fill.cell) refl) (rw (off.doomed) (vacant s free is intact.empty)) (λ k ne. rw (fill.others k ne) refl) once

    by_free : (free : List ℕ) → s.free ≡ free → IsPermutation (row ∷ live_rows s) (filter_map (live_at (cells_with row s.cells free) doomed) (range_with_len 0 (length (cells_with row s.cells free))))
    by_free [] is =
        let n = length s.cells in
        let more : range_with_len 0 (n + 1) ≡ range_with_len 0 n ++ n ∷ [] = rw add-one (rw (zero-add n) at (range_with_len-more 0 n)) in
        let off : IsUnused s n = unused s [] is intact.owned in
        let none : live_at s.cells doomed n ≡ None = rw (off.doomed) (vacant s [] is intact.empty) in
        let before : filter_map (live_at s.cells doomed) (range_with_len 0 n ++ n ∷ []) ≡ live_rows s = filter_map-append (live_at s.cells doomed) (range_with_len 0 n) (n ∷ []) ∙ rw (none, append-nil) refl in
        let seen = among [] (range_with_len 0 n ++ n ∷ []) is (rw (← more) (times-range n (n + 1) ∙ rw (lt-ltb n (n + 1) (omega arith)) refl)) in
        rw (length_push s.cells (record { generation = 0; value = Some row }), more) (IsPermutation-sym _ (row ∷ live_rows s) (rw before at seen))
    by_free (m ∷ ms) is =
        let within = free_within s m (rw is (omega (arith, times_head m ms))) intact.owned in
        rw (length-set s.cells m (record { generation = (cell_at s.cells m).generation; value = Some row })) (IsPermutation-sym _ (row ∷ live_rows s) (among (m ∷ ms) (range_with_len 0 (length s.cells)) is (times-range m (length s.cells) ∙ rw (lt-ltb m (length s.cells) within) refl)))

-- no cell is freed, and at most one is new
pub freed-row_inserted : (row : Row) (s : State) → IsIntact s [] → freed_of (row_inserted row s).cells ≡ freed_of s.cells
freed-row_inserted row s intact = freed_of-row_inserted row s s.free refl intact.owned

pub cells-row_inserted : (row : Row) (s : State) → length (row_inserted row s).cells ≤ length s.cells + 1
cells-row_inserted row s = by_free s.free
  where
    by_free : (free : List ℕ) → length (cells_with row s.cells free) ≤ length s.cells + 1
    by_free [] = omega (arith, length_push s.cells (record { generation = 0; value = Some row }))
    by_free (n ∷ ns) = omega (arith, length-set s.cells n (record { generation = (cell_at s.cells n).generation; value = Some row }))
