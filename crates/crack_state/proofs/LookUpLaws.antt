-- What a look-up of a serial implies for the live rows, and for any list of them; and how such a list changes.
use Rattle.std.proofs.Common.{◌≡◌, ◌≢◌, ℕ, Bool, List, [], ◌∷◌, map, filter, length, get_or, Option, Some, None, IsSome, refl, sym, ap, ◌∙◌}
use Rattle.std.specs.Prelude.{◌==◌, unwrap_or}
use Rattle.std.specs.List.{All, Contains, find, range_with_len}
use Rattle.std.specs.List.Sorted.{IsPermutation}
use Rattle.std.specs.Option.{option_and_then}
use Rattle.std.proofs.lemmas.List.Sorted.{All-permutation, Contains-permutation, IsPermutation-sym, IsPermutation-trans, IsPermutation-map}
use Rattle.std.proofs.lemmas.Option.{option_and_then_some, same_Some}
use Rattle.std.proofs.lemmas.Bool.{ne_eqb, eq-eqb, eqb-true}
use Rattle.crack_row.proofs.Lists.{IsPermutation-filter, filter_all, find_only, find_none}
use Rattle.crack_row.specs.Rows.{is_other, replaced}
use Rattle.crack_row.specs.declared.Row.{Row}
use Rattle.crack_arena.specs.Arena.{Handle, read, slots}
use Rattle.crack_serials.specs.Serials.{handle_of}
use Rattle.crack_state.specs.State.{State, IsIntact, live_rows}
use Rattle.crack_state.proofs.Words.{IsLiveAt, is_live}
use Rattle.crack_state.specs.Points.{row_by, pending_by, handle_by, Cancels, Dooms}
use Rattle.crack_state.proofs.KeyedLaws.{Contains-live}
use Rattle.crack_state.proofs.CellLaws.{row_read}
use Rattle.crack_state.proofs.LiveLaws.{All-live_at}
use Rattle.crack_state.proofs.PointLaws.{found_by, reads_by, others_live}

-- the row that a serial leads to is a live one, and with this serial
pub record IsRowBy (s : State) (serial : ℕ) (row : Row) : Type 0 where
  pub handle : Handle
  pub leads : handle_of s.serials serial ≡ Some handle
  pub reads : read s.cells handle ≡ Some row
  pub same : row.serial.0 ≡ serial
  pub live : Contains (live_rows s) row

pub row_by-is : (s : State) (serial : ℕ) (row : Row) → row_by s serial ≡ Some row → IsIntact s [] → IsRowBy s serial row
row_by-is s serial row is intact = option_and_then_some (read s.cells) (handle_of s.serials serial) row is (λ h found e.
    let live : IsLiveAt s.cells (slots s.pending_out) serial h = is_live s.cells (slots s.pending_out) serial h (intact.keyed.leads serial h found) in
    let rows : live.row ≡ row = same_Some live.row row (sym live.reads ∙ e) in
    record { handle = h; leads = found; reads = e; same = ap (λ (r : Row). r.serial.0) (sym rows) ∙ live.same; live = Contains-live s h row e live.kept })

-- a row exists exactly if the map has its serial, and exactly if it is known whether it is pending
pub row_by-handle : (s : State) (serial : ℕ) (h : Handle) → handle_of s.serials serial ≡ Some h → row_by s serial ≡ read s.cells h
row_by-handle s serial h found = ap (option_and_then (read s.cells)) found

pub row_by-pending : (s : State) (serial : ℕ) (pending : Bool) → pending_by s serial ≡ Some pending → IsIntact s [] → IsSome (row_by s serial)
row_by-pending s serial pending is intact =
    let found = found_by s serial pending is in
    rw (row_by-handle s serial (handle_by s serial) found.leads) (reads_by s serial (handle_by s serial) found.leads intact)

-- if there is none, no live row has the serial
pub row_by-none : (s : State) (serial : ℕ) → handle_of s.serials serial ≡ None → IsIntact s [] → All (λ (r : Row). r.serial.0 ≢ serial) (live_rows s)
row_by-none s serial none intact = others_live s.cells (slots s.pending_out) s.serials serial (range_with_len 0 (length s.cells)) none intact.keyed

-- no other live row has its serial
pub row_by-only : (s : State) (serial : ℕ) (row : Row) → row_by s serial ≡ Some row → IsIntact s [] → All (λ (r : Row). r.serial.0 ≡ serial → r ≡ row) (live_rows s)
row_by-only s serial row is intact = All-live_at (λ (r : Row). r.serial.0 ≡ serial → r ≡ row) s.cells (slots s.pending_out) (range_with_len 0 (length s.cells)) (λ h r reads kept e.
    let found : Some r ≡ Some row = sym reads ∙ sym (row_by-handle s serial h (ap (handle_of s.serials) (sym e) ∙ intact.keyed.lists h r reads kept)) ∙ is in
    ap (λ (o : Option Row). unwrap_or o row) found)

-- so a look-up finds what a search of any list of the live rows finds
pub row_by-find : (s : State) (serial : ℕ) (plain : List Row) → IsIntact s [] → IsPermutation (live_rows s) plain → row_by s serial ≡ find (λ (r : Row). r.serial.0 == serial) plain
row_by-find s serial plain intact same = by_handle (handle_of s.serials serial) refl
  where
    has : Row → Bool
    has r = r.serial.0 == serial

    by_handle : (o : Option Handle) → handle_of s.serials serial ≡ o → row_by s serial ≡ find has plain
    by_handle None found =
        let apart = All-permutation (λ (r : Row). r.serial.0 ≢ serial) (live_rows s) plain same (row_by-none s serial found intact) in
        ap (option_and_then (read s.cells)) found ∙ sym (find_none has plain (λ k d h. ne_eqb (get_or plain k d).serial.0 serial (apart k d h)))
    by_handle (Some h) found =
        let row = row_read s.cells h (reads_by s serial h found intact) in
        let is : row_by s serial ≡ Some row.0 = row_by-handle s serial h found ∙ row.1 in
        let known = row_by-is s serial row.0 is intact in
        let only = All-permutation (λ (r : Row). r.serial.0 ≡ serial → r ≡ row.0) (live_rows s) plain same (row_by-only s serial row.0 is intact) in
        is ∙ sym (find_only has row.0 plain (Contains-permutation (live_rows s) plain row.0 same known.live) (eq-eqb row.0.serial.0 serial known.same) (λ k d h e. only k d h (eqb-true (get_or plain k d).serial.0 serial e)))

-- the serial of a row that was cancelled or doomed is no longer in the map
pub gone-cancels : (serial : ℕ) (s t : State) → Cancels serial s t → handle_of t.serials serial ≡ None
gone-cancels serial s t cancels = cancels.map serial ∙ rw (eq-eqb serial serial refl) refl

pub gone-dooms : (serial : ℕ) (s t : State) → Dooms serial s t → handle_of t.serials serial ≡ None
gone-dooms serial s t dooms = dooms.map serial ∙ rw (eq-eqb serial serial refl) refl

filter-others : (serial : ℕ) (rows : List Row) → All (λ (r : Row). r.serial.0 ≢ serial) rows → filter (is_other serial) rows ≡ rows
filter-others serial rows apart = filter_all (is_other serial) rows (λ k d h. rw (ne_eqb (get_or rows k d).serial.0 serial (apart k d h)) refl)

-- a list of the live rows, without the one that was removed
pub live-without : (s t : State) (serial : ℕ) (row : Row) (plain : List Row) → row.serial.0 ≡ serial → handle_of t.serials serial ≡ None → IsIntact t [] → IsPermutation (row ∷ live_rows t) (live_rows s) → IsPermutation (live_rows s) plain → IsPermutation (live_rows t) (filter (is_other serial) plain)
live-without s t serial row plain is gone intact went same =
    let whole = IsPermutation-trans (row ∷ live_rows t) (live_rows s) plain went same in
    let kept = IsPermutation-filter (is_other serial) (row ∷ live_rows t) plain whole in
    let rest : filter (is_other serial) (row ∷ live_rows t) ≡ live_rows t = rw (eq-eqb row.serial.0 serial is) (filter-others serial (live_rows t) (row_by-none t serial gone intact)) in
    rw rest at kept

-- a list of the live rows, with the one that was rewritten
pub live-replaced : (s t : State) (row : Row) (plain : List Row) → IsPermutation (map (replaced row) (live_rows s)) (live_rows t) → IsPermutation (live_rows s) plain → IsPermutation (live_rows t) (map (replaced row) plain)
live-replaced s t row plain changed same =
    IsPermutation-trans (live_rows t) (map (replaced row) (live_rows s)) (map (replaced row) plain) (IsPermutation-sym (map (replaced row) (live_rows s)) (live_rows t) changed) (IsPermutation-map (replaced row) (live_rows s) plain same)
