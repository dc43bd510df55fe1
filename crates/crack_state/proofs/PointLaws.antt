-- What the commands on one row do to a store: it stays intact, one live row is removed or replaced, and no other changes.
use Rattle.std.proofs.Common.{◌≡◌, ◌≢◌, ℕ, ◌+◌, ◌<◌, ◌≤◌, Bool, true, false, ltb, List, [], ◌∷◌, map, length, get_or, set, Option, Some, None, refl, sym, ap, ◌∙◌, inl, inr, arith, length-set}
use Rattle.std.specs.Prelude.{IfSome, IsSome, unwrap_or, is_some}
use Rattle.std.specs.List.{All, Contains, filter_map, range_with_len}
use Rattle.std.specs.List.Sorted.{IsPermutation}
use Rattle.std.specs.Option.{option_map}
use Rattle.std.proofs.lemmas.Option.{none-some}
use Rattle.std.proofs.lemmas.List.{get_or-set_same, length_push}
use Rattle.std.proofs.lemmas.List.Elements.{All-nil, All-push, All-set, All-contains, Contains-append_right}
use Rattle.std.proofs.lemmas.List.Sorted.{IsPermutation-sym, IsPermutation-trans, IsPermutation-map}
use Rattle.std.proofs.lemmas.List.Sums.{sum_by-set}
use Rattle.std.proofs.lemmas.Bool.{ltb-false, cases_eq, cases_lt, ne_eqb, eq-eqb, lt-ltb, true≢false}
use Rattle.crack_row.proofs.Lists.{All-removed, map_fixed}
use Rattle.crack_row.specs.Ranges.{IsIn}
use Rattle.crack_row.specs.Rows.{replaced}
use Rattle.crack_row.specs.declared.Row.{Row}
use Rattle.crack_arena.specs.Arena.{Cell, Handle, StandsAt, times, read, cell_at, empty_cell, slots, no_handle, place_in}
use Rattle.crack_arena.proofs.Times.{times-nil, times_other, times_head, times-append, times-map-append}
use Rattle.crack_serials.specs.Serials.{handle_of, Maps}
use Rattle.crack_state.specs.State.{State, Reads, IsIntact, IsKeyed, freed_of, live_at, live_rows}
use Rattle.crack_state.proofs.Words.{IsLiveAt, is_live, AreEmpty}
use Rattle.crack_state.specs.Steps.{next_handle}
use Rattle.crack_state.specs.Points.{pending_by, handle_by, MayFree, struck, doomed_too, overwritten, renewed, Cancels, Dooms, Renews, Rewrites, IsRenewable, IsRewritable}
use Rattle.crack_state.proofs.PieceLaws.{cases_Option}
use Rattle.crack_state.proofs.OwnedLaws.{places_of, times-taken, times-places}
use Rattle.crack_state.proofs.CellLaws.{AgreeOff-set, read-off, keys-off, generation_of_read, reads_some, one_handle, stands_there, read-value, cell_within}
use Rattle.crack_state.proofs.LiveLaws.{All-live_at, Hides, Hides-emptied, live_rows-less, split_at_member}
use Rattle.crack_state.proofs.KeyedLaws.{maps_this, Maps-over, IsKeyed-lost, forgotten, Maps-forgotten}
use Rattle.crack_state.proofs.InsertLaws.{Filled, apart_numbers, IsKeyed-more, IsIntact-grown, live_rows-row_inserted, freed-row_inserted, cells-row_inserted}
use Rattle.crack_state.proofs.BuryLaws.{freed_of-emptied, IsIntact-freed}

-- the handle that a serial leads to, and whether it is a pending insertion
pub record FoundBy (s : State) (serial : ℕ) (pending : Bool) : Type 0 where
  pub leads : handle_of s.serials serial ≡ Some (handle_by s serial)
  pub test : ltb 0 (times (handle_by s serial).slot (slots s.pending_in)) ≡ pending

pub found_by : (s : State) (serial : ℕ) (pending : Bool) → pending_by s serial ≡ Some pending → FoundBy s serial pending
found_by s serial pending is =
    let test : Handle → Bool = λ h. ltb 0 (times h.slot (slots s.pending_in)) in
    let Found : Option Handle → Type 0 = λ o. option_map test o ≡ Some pending → FoundBy s serial pending in
    cases_Option Found (handle_of s.serials serial) (λ found e. absurd (true≢false (sym (ap is_some e)))) (λ h found e.
    let same : handle_by s serial ≡ h = ap (λ (o : Option Handle). unwrap_or o no_handle) found in
    record { leads = found ∙ ap Some (sym same); test = ap test same ∙ ap (λ (o : Option Bool). unwrap_or o false) e }) is

pub handle_by-is : (s : State) (serial : ℕ) (h : Handle) → handle_of s.serials serial ≡ Some h → handle_by s serial ≡ h
handle_by-is s serial h found = ap (λ (o : Option Handle). unwrap_or o no_handle) found

-- a row's handle is in the column or among the pending insertions, in one place
pub record Stands1 (s : State) (serial : ℕ) (h : Handle) : Type 0 where
  pub live : IsLiveAt s.cells (slots s.pending_out) serial h
  pub within : h.slot < length s.cells
  pub off_free : times h.slot s.free ≡ 0
  pub once : times h.slot (slots s.column) + times h.slot (slots s.pending_in) ≡ 1

-- the number of a cell with a value is none of the free ones
full-off_free : (cells : List (Cell Row)) (n : ℕ) (r : Row) (free : List ℕ) → (cell_at cells n).value ≡ Some r → AreEmpty cells free → times n free ≡ 0
full-off_free cells n r free full empty = elim (cases_lt 0 (times n free)) [
  | inl l ↦
      let there = split_at_member n free l in
      let listed : Contains free n = rw there.is (Contains-append_right there.front (n ∷ there.back) n (0, omega arith, refl)) in
      let none = All-contains (λ m. (cell_at cells m).value ≡ None) free n empty listed in
      absurd (cc)
  | inr l ↦ omega arith
]

pub stands1 : (s : State) (serial : ℕ) (h : Handle) → handle_of s.serials serial ≡ Some h → IsIntact s [] → Stands1 s serial h
stands1 s serial h found intact =
    let live : IsLiveAt s.cells (slots s.pending_out) serial h = is_live s.cells (slots s.pending_out) serial h (intact.keyed.leads serial h found) in
    let within = cell_within s.cells h live.row live.reads in
    let off = full-off_free s.cells h.slot live.row s.free (read-value s.cells h live.row live.reads) intact.empty in
    let total : times h.slot (places_of s []) ≡ 1 = intact.owned.once h.slot ∙ rw (lt-ltb h.slot (length s.cells) within) refl in
    record { live = live; within = within; off_free = off; once = omega (arith, total, times-places h.slot s.column s.pending_in s.free [], times-nil h.slot, off) }

-- the handle of a serial reads its row
pub reads_by : (s : State) (serial : ℕ) (h : Handle) → handle_of s.serials serial ≡ Some h → IsIntact s [] → Reads s.cells h
reads_by s serial h found intact =
    let live : IsLiveAt s.cells (slots s.pending_out) serial h = is_live s.cells (slots s.pending_out) serial h (intact.keyed.leads serial h found) in
    reads_some s.cells h live.row live.reads

-- a row that isn't a pending insertion isn't listed there
pub unlisted_by : (s : State) (serial : ℕ) → FoundBy s serial false → times (handle_by s serial).slot (slots s.pending_in) ≡ 0
unlisted_by s serial found = omega (arith, ltb-false 0 (times (handle_by s serial).slot (slots s.pending_in)) found.test)

-- a pending insertion is at the first place of its cell
pub listed_at : (s : State) (serial : ℕ) (h : Handle) → handle_of s.serials serial ≡ Some h → 0 < times h.slot (slots s.pending_in) → IsIntact s [] → StandsAt s.pending_in (place_in s.pending_in h.slot) h
listed_at s serial h found listed intact =
    let live : IsLiveAt s.cells (slots s.pending_out) serial h = is_live s.cells (slots s.pending_out) serial h (intact.keyed.leads serial h found) in
    stands_there s.cells s.pending_in h (reads_some s.cells h live.row live.reads) intact.owned.pending_reads listed

-- the cell of a cancelled row shows none
hides_struck : (s : State) (serial : ℕ) (h : Handle) → handle_of s.serials serial ≡ Some h → IsIntact s [] → Hides s.cells (struck h s).cells (slots s.pending_out) (slots s.pending_out) h.slot
hides_struck s serial h found intact = Hides-emptied s.cells (slots s.pending_out) (slots s.pending_out) h.slot (h.generation + 1) (stands1 s serial h found intact).within (λ n ne. refl)

-- the store after a cancel, whatever its map looks like
pub IsIntact-struck : (s : State) (serial : ℕ) (h : Handle) (after : List (ℕ × Handle)) → handle_of s.serials serial ≡ Some h → 0 < times h.slot (slots s.pending_in) → Maps serial None s.serials after → MayFree s → IsIntact s [] → IsIntact (record (struck h s) { serials = after }) []
IsIntact-struck s serial h after found listed maps few intact =
    let owned = intact.owned in
    let doomed = slots s.pending_out in
    let at = listed_at s serial h found listed intact in
    let place = place_in s.pending_in h.slot in
    IsIntact-freed s (record (struck h s) { serials = after }) h [] refl (reads_by s serial h found intact)
    (λ n. omega (arith, times-taken n s.pending_in place h at.within at.is, times-nil n))
    (stands1 s serial h found intact).live.kept
    (λ n. omega (arith, owned.doomed_once n, times-append n (slots s.column) [], times-nil n))
    (All-removed (Reads s.cells) s.pending_in place owned.pending_reads)
    owned.doomed_reads
    (IsKeyed-lost s.cells (struck h s).cells doomed doomed s.serials after serial h (hides_struck s serial h found intact) found maps intact.keyed)
    few
    intact.counted
    intact

-- its row is the difference
pub live_rows-struck : (s : State) (serial : ℕ) (h : Handle) (row : Row) → handle_of s.serials serial ≡ Some h → read s.cells h ≡ Some row → IsIntact s [] → IsPermutation (row ∷ live_rows (struck h s)) (live_rows s)
live_rows-struck s serial h row found reads intact =
    let known = stands1 s serial h found intact in
    live_rows-less s (struck h s) h.slot row (hides_struck s serial h found intact) (length-set s.cells h.slot (record { generation = h.generation + 1; value = None })) known.within (rw known.live.kept (read-value s.cells h row reads))

-- a handle that is doomed too
times-doomed : (n : ℕ) (s : State) (h : Handle) → times n (slots (doomed_too h s).pending_out) ≡ times n (slots s.pending_out) + times n (h.slot ∷ [])
times-doomed n s h = times-map-append n (λ (x : Handle). x.slot) s.pending_out (h ∷ [])

hides_doomed : (s : State) (h : Handle) → times h.slot (slots s.pending_out) ≡ 0 → Hides s.cells s.cells (slots s.pending_out) (slots (doomed_too h s).pending_out) h.slot
hides_doomed s h kept =
    let one : times h.slot (slots (doomed_too h s).pending_out) ≡ 1 = omega (arith, times-doomed h.slot s h, kept, times_head h.slot [], times-nil h.slot) in
    record { others = λ m ne. refl; kept = λ n ne. omega (arith, times-doomed n s h, times_other n h.slot (λ e. ne (sym e))); none = rw one refl }

-- the store after a doom, whatever its map looks like
pub IsIntact-doomed : (s : State) (serial : ℕ) (h : Handle) (after : List (ℕ × Handle)) → handle_of s.serials serial ≡ Some h → times h.slot (slots s.pending_in) ≡ 0 → Maps serial None s.serials after → MayFree s → IsIntact s [] → IsIntact (record (doomed_too h s) { serials = after }) []
IsIntact-doomed s serial h after found unlisted maps few intact =
    let known = stands1 s serial h found intact in
    let live = known.live in
    let owned = intact.owned in
    let in_column : times h.slot (slots s.column) ≡ 1 = omega (arith, known.once, unlisted) in
    record {
      owned = record {
        once = owned.once;
        column_reads = owned.column_reads;
        pending_reads = owned.pending_reads;
        hand_reads = owned.hand_reads;
        doomed_reads = All-push (Reads s.cells) s.pending_out h owned.doomed_reads (reads_some s.cells h live.row live.reads);
        doomed_once = λ n. elim (cases_eq h.slot n) [
          | inl e ↦ rw (← e) (omega (arith, times-doomed h.slot s h, live.kept, times_head h.slot [], times-nil h.slot, in_column, times-append h.slot (slots s.column) []))
          | inr ne ↦ omega (arith, times-doomed n s h, owned.doomed_once n, times_other n h.slot ne)
        ];
      };
      obeyed = intact.obeyed;
      rising = intact.rising;
      inside = intact.inside;
      keyed = IsKeyed-lost s.cells s.cells (slots s.pending_out) (slots (doomed_too h s).pending_out) s.serials after serial h (hides_doomed s h live.kept) found maps intact.keyed;
      empty = intact.empty;
      within = intact.within;
      few_cells = intact.few_cells;
      few_freed = omega (arith, few, length_push s.pending_out h);
      counted = intact.counted;
    }

-- its row is the difference
pub live_rows-doomed : (s : State) (serial : ℕ) (h : Handle) (row : Row) → handle_of s.serials serial ≡ Some h → read s.cells h ≡ Some row → IsIntact s [] → IsPermutation (row ∷ live_rows (doomed_too h s)) (live_rows s)
live_rows-doomed s serial h row found reads intact =
    let known = stands1 s serial h found intact in
    live_rows-less s (doomed_too h s) h.slot row (hides_doomed s h known.live.kept) refl known.within (rw known.live.kept (read-value s.cells h row reads))

-- every handle that read a row reads one, and the column's read the same
Reads_over : (cells : List (Cell Row)) (h : Handle) (row : Row) (hs : List Handle) → h.slot < length cells → Reads cells h → All (Reads cells) hs → All (Reads (set cells h.slot (record { generation = h.generation; value = Some row }))) hs
Reads_over cells h row hs within h_reads reads =
    let c : Cell Row = record { generation = h.generation; value = Some row } in
    λ k d j. elim (cases_eq (get_or hs k d).slot h.slot) [
      | inl e ↦ rw (one_handle cells (get_or hs k d) h (reads k d j) h_reads e, get_or-set_same cells h.slot c empty_cell within, eq-eqb h.generation h.generation refl) refl
      | inr ne ↦ rw (read-off h.slot cells (set cells h.slot c) (get_or hs k d) (AgreeOff-set cells h.slot c) ne) (reads k d j)
    ]

-- the row of a serial is replaced by another in its cell
IsKeyed-rewritten : (s : State) (h : Handle) (row : Row) → handle_of s.serials row.serial.0 ≡ Some h → IsIntact s [] → IsKeyed (overwritten row h s).cells (slots s.pending_out) s.serials
IsKeyed-rewritten s h row found intact =
    let serial = row.serial.0 in
    let known = stands1 s serial h found intact in
    let between = forgotten serial s.serials in
    let gone = Maps-forgotten serial s.serials in
    let doomed = slots s.pending_out in
    let none : Cell Row = record { generation = h.generation + 1; value = None } in
    let full : Cell Row = record { generation = h.generation; value = Some row } in
    let less = set s.cells h.slot none in
    let lost = IsKeyed-lost s.cells less doomed doomed s.serials between serial h (hides_struck s serial h found intact) found gone intact.keyed in
    let fill : Filled less (set s.cells h.slot full) h row = record { cell = get_or-set_same s.cells h.slot full empty_cell known.within; others = λ m ne. AgreeOff-set s.cells h.slot full m ne ∙ sym (AgreeOff-set s.cells h.slot none m ne) } in
    let own : Maps serial (Some h) s.serials s.serials = λ n. elim (cases_eq serial n) [ inl e ↦ rw (eq-eqb serial n e) (ap (handle_of s.serials) (sym e) ∙ found) | inr ne ↦ rw (ne_eqb serial n ne) refl ] in
    IsKeyed-more less (set s.cells h.slot full) doomed between s.serials h row fill known.live.kept (ap (λ (x : Cell Row). x.value) (get_or-set_same s.cells h.slot none empty_cell known.within)) (maps_this serial serial None s.serials between gone refl) (Maps-over serial None (Some h) s.serials between s.serials gone own) lost

-- the store after a write in place
pub IsIntact-rewritten : (s : State) (h : Handle) (row : Row) → handle_of s.serials row.serial.0 ≡ Some h → 0 < times h.slot (slots s.pending_in) → IsIn s.keys row.key.0 → IsIntact s [] → IsIntact (overwritten row h s) []
IsIntact-rewritten s h row found listed inside intact =
    let owned = intact.owned in
    let known = stands1 s row.serial.0 h found intact in
    let reads = reads_some s.cells h known.live.row known.live.reads in
    let c : Cell Row = record { generation = h.generation; value = Some row } in
    let cells = set s.cells h.slot c in
    let agree = AgreeOff-set s.cells h.slot c in
    let off_column : times h.slot (slots s.column) ≡ 0 = omega (arith, known.once, listed) in
    record {
      owned = record {
        once = λ n. rw (length-set s.cells h.slot c) (owned.once n);
        column_reads = Reads_over s.cells h row s.column known.within reads owned.column_reads;
        pending_reads = Reads_over s.cells h row s.pending_in known.within reads owned.pending_reads;
        hand_reads = All-nil (Reads cells);
        doomed_reads = Reads_over s.cells h row s.pending_out known.within reads owned.doomed_reads;
        doomed_once = owned.doomed_once;
      };
      obeyed = rw (keys-off h.slot s.cells cells s.column agree off_column) intact.obeyed;
      rising = intact.rising;
      inside = intact.inside;
      keyed = IsKeyed-rewritten s h row found intact;
      empty = λ k d j. rw (agree (get_or s.free k d) (apart_numbers s.free h.slot known.off_free k d j)) (intact.empty k d j);
      within = All-set (λ (x : Cell Row). IfSome x.value (λ r. IsIn s.keys r.key.0)) s.cells h.slot c inside intact.within;
      few_cells = omega (arith, intact.few_cells, length-set s.cells h.slot c);
      few_freed = omega (arith, intact.few_freed, sum_by-set (λ (x : Cell Row). x.generation) s.cells h.slot c empty_cell known.within, generation_of_read s.cells h reads);
      counted = intact.counted;
    }

-- the store after a doom, with such a map
abbrev between_doomed : Row → Handle → State → State
between_doomed row h s = record (doomed_too h s) { serials = forgotten row.serial.0 s.serials }

IsIntact-between : (s : State) (h : Handle) (row : Row) → handle_of s.serials row.serial.0 ≡ Some h → times h.slot (slots s.pending_in) ≡ 0 → MayFree s → IsIntact s [] → IsIntact (between_doomed row h s) []
IsIntact-between s h row found unlisted few intact =
    IsIntact-doomed s row.serial.0 h (forgotten row.serial.0 s.serials) found unlisted (Maps-forgotten row.serial.0 s.serials) few intact

-- the store after a renewal, whatever its map looks like
pub IsIntact-renewed : (s : State) (h : Handle) (row : Row) (after : List (ℕ × Handle)) → handle_of s.serials row.serial.0 ≡ Some h → times h.slot (slots s.pending_in) ≡ 0 → Maps row.serial.0 (Some (next_handle s)) s.serials after → IsIn s.keys row.key.0 → IsRenewable s → IsIntact s [] → IsIntact (record (renewed row h s) { serials = after }) []
IsIntact-renewed s h row after found unlisted maps inside may intact =
    let serial = row.serial.0 in
    let d = between_doomed row h s in
    let gone = Maps-forgotten serial s.serials in
    let fresh : handle_of d.serials serial ≡ None = maps_this serial serial None s.serials d.serials gone refl in
    IsIntact-grown row d (record (renewed row h s) { serials = after }) refl (Maps-over serial None (Some (next_handle s)) s.serials d.serials after gone maps) (record { fresh = fresh; within = inside; cell = may.cell }) (IsIntact-between s h row found unlisted may.few intact)

-- if a serial isn't in the map, no live row has it
pub others_live : (cells : List (Cell Row)) (doomed : List ℕ) (serials : List (ℕ × Handle)) (serial : ℕ) (numbers : List ℕ) → handle_of serials serial ≡ None → IsKeyed cells doomed serials → All (λ (r : Row). r.serial.0 ≢ serial) (filter_map (live_at cells doomed) numbers)
others_live cells doomed serials serial numbers none keyed = All-live_at (λ (r : Row). r.serial.0 ≢ serial) cells doomed numbers (λ h r reads kept e.
    true≢false (ap is_some (sym (keyed.lists h r reads kept) ∙ ap (handle_of serials) e ∙ none)))

-- a list without the serial of a row is unchanged if that row replaces the one with its serial
map-replaced : (row : Row) (rows : List Row) → All (λ (r : Row). r.serial.0 ≢ row.serial.0) rows → map (replaced row) rows ≡ rows
map-replaced row rows apart = map_fixed (replaced row) rows (λ k d h. rw (ne_eqb (get_or rows k d).serial.0 row.serial.0 (apart k d h)) refl)

-- one row is replaced by another with its serial
pub replaced_in : (row old : Row) (before rest after : List Row) → old.serial.0 ≡ row.serial.0 → All (λ (r : Row). r.serial.0 ≢ row.serial.0) rest → IsPermutation (old ∷ rest) before → IsPermutation (row ∷ rest) after → IsPermutation (map (replaced row) before) after
replaced_in row old before rest after same apart gone come =
    let first : replaced row old ≡ row = rw (eq-eqb old.serial.0 row.serial.0 same) refl in
    let moved : IsPermutation (replaced row old ∷ map (replaced row) rest) (map (replaced row) before) = IsPermutation-map (replaced row) (old ∷ rest) before gone in
    let put : IsPermutation (row ∷ rest) (map (replaced row) before) = rw (first, map-replaced row rest apart) at moved in
    IsPermutation-trans (map (replaced row) before) (row ∷ rest) after (IsPermutation-sym (row ∷ rest) (map (replaced row) before) put) come

-- a write in place replaces the row
pub live_rows-rewritten : (s : State) (h : Handle) (row : Row) → handle_of s.serials row.serial.0 ≡ Some h → IsIntact s [] → IsPermutation (map (replaced row) (live_rows s)) (live_rows (overwritten row h s))
live_rows-rewritten s h row found intact =
    let serial = row.serial.0 in
    let known = stands1 s serial h found intact in
    let doomed = slots s.pending_out in
    let between = forgotten serial s.serials in
    let none : Cell Row = record { generation = h.generation + 1; value = None } in
    let full : Cell Row = record { generation = h.generation; value = Some row } in
    let less = struck h s in
    let hides = hides_struck s serial h found intact in
    let gone = live_rows-struck s serial h known.live.row found known.live.reads intact in
    let lost = IsKeyed-lost s.cells less.cells doomed doomed s.serials between serial h hides found (Maps-forgotten serial s.serials) intact.keyed in
    let apart = others_live less.cells doomed between serial (range_with_len 0 (length less.cells)) (maps_this serial serial None s.serials between (Maps-forgotten serial s.serials) refl) lost in
    let back : Hides (overwritten row h s).cells less.cells doomed doomed h.slot = record { others = λ m ne. hides.others m ne ∙ sym (AgreeOff-set s.cells h.slot full m ne); kept = λ n ne. refl; none = hides.none } in
    let had : live_at (overwritten row h s).cells doomed h.slot ≡ Some row = rw (known.live.kept, get_or-set_same s.cells h.slot full empty_cell known.within) refl in
    replaced_in row known.live.row (live_rows s) (live_rows less) (live_rows (overwritten row h s)) known.live.same apart gone
    (live_rows-less (overwritten row h s) less h.slot row back (omega (arith, length-set s.cells h.slot none, length-set s.cells h.slot full)) (omega (arith, known.within, length-set s.cells h.slot full)) had)

-- so does a renewal
pub live_rows-renewed : (s : State) (h : Handle) (row : Row) → handle_of s.serials row.serial.0 ≡ Some h → times h.slot (slots s.pending_in) ≡ 0 → MayFree s → IsIntact s [] → IsPermutation (map (replaced row) (live_rows s)) (live_rows (renewed row h s))
live_rows-renewed s h row found unlisted few intact =
    let serial = row.serial.0 in
    let d = between_doomed row h s in
    let live = (stands1 s serial h found intact).live in
    let between = IsIntact-between s h row found unlisted few intact in
    let gone = live_rows-doomed s serial h live.row found live.reads intact in
    let fresh = maps_this serial serial None s.serials d.serials (Maps-forgotten serial s.serials) refl in
    let apart = others_live d.cells (slots d.pending_out) d.serials serial (range_with_len 0 (length d.cells)) fresh between.keyed in
    replaced_in row live.row (live_rows s) (live_rows d) (live_rows (renewed row h s)) live.same apart gone (live_rows-row_inserted row d between)

-- how many cells are new at most, and how often one is freed, now or later
pub record Spends (made spent : ℕ) (s t : State) : Type 0 where
  pub keys : t.keys ≡ s.keys
  pub cells : length t.cells ≤ length s.cells + made
  pub freed : freed_of t.cells + length t.pending_out ≤ freed_of s.cells + length s.pending_out + spent

pub Spends-cancels : (serial : ℕ) (s t : State) → pending_by s serial ≡ Some true → IsIntact s [] → Cancels serial s t → Spends 0 1 s t
Spends-cancels serial s t pending intact cancels =
    let h = handle_by s serial in
    let known = stands1 s serial h (found_by s serial true pending).leads intact in
    let c : Cell Row = record { generation = h.generation + 1; value = None } in
    rw cancels.after.same (record {
      keys = refl;
      cells = omega (arith, length-set s.cells h.slot c);
      freed = omega (arith, freed_of-emptied s.cells h known.within (reads_some s.cells h known.live.row known.live.reads));
    })

pub Spends-dooms : (serial : ℕ) (s t : State) → Dooms serial s t → Spends 0 1 s t
Spends-dooms serial s t dooms =
    let h = handle_by s serial in
    rw dooms.after.same (record {
      keys = refl;
      cells = omega arith;
      freed = omega (arith, length_push s.pending_out h);
    })

Spends-renews : (row : Row) (s t : State) → pending_by s row.serial.0 ≡ Some false → MayFree s → IsIntact s [] → Renews row s t → Spends 1 1 s t
Spends-renews row s t column few intact renews =
    let h = handle_by s row.serial.0 in
    let found = found_by s row.serial.0 false column in
    let unlisted = unlisted_by s row.serial.0 found in
    let between = IsIntact-between s h row found.leads unlisted few intact in
    rw renews.after.same (record {
      keys = refl;
      cells = cells-row_inserted row (between_doomed row h s);
      freed = omega (arith, freed-row_inserted row (between_doomed row h s) between, length_push s.pending_out h);
    })

pub Spends-rewrites : (o : Option Bool) (row : Row) (s t : State) → pending_by s row.serial.0 ≡ o → IsRewritable row s → IsIntact s [] → Rewrites o row s t → Spends 1 1 s t
Spends-rewrites None row s t is may intact rewrites = absurd (by_handle (handle_of s.serials row.serial.0) may.there is)
  where
    by_handle : (o : Option Handle) → IsSome o → option_map (λ (h : Handle). ltb 0 (times h.slot (slots s.pending_in))) o ≡ None → ⊥
    by_handle None there is = true≢false (sym there)
    by_handle (Some h) there is = none-some _ (sym is)
Spends-rewrites (Some false) row s t is may intact rewrites = Spends-renews row s t is (may.anew is).few intact rewrites
Spends-rewrites (Some true) row s t is may intact rewrites =
    let h = handle_by s row.serial.0 in
    let known = stands1 s row.serial.0 h (found_by s row.serial.0 true is).leads intact in
    let c : Cell Row = record { generation = h.generation; value = Some row } in
    rw rewrites (record {
      keys = refl;
      cells = omega (arith, length-set s.cells h.slot c);
      freed = omega (arith, sum_by-set (λ (x : Cell Row). x.generation) s.cells h.slot c empty_cell known.within, generation_of_read s.cells h (reads_some s.cells h known.live.row known.live.reads));
    })
