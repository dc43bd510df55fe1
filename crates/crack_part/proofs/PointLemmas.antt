-- The live rows after deletes and updates, stated for a list of them.
use Rattle.std.proofs.Common.{◌≡◌, ◌≢◌, ℕ, Bool, true, false, List, [], ◌∷◌, filter, map, Option, Some, None, Result, Ok, Err, refl, sym, ap}
use Rattle.std.specs.Prelude.{IfSome, IfNone, OnOk, OnErr, is_some, nat_lt}
use Rattle.std.specs.List.{All}
use Rattle.std.specs.List.Sorted.{IsPermutation}
use Rattle.std.specs.Option.{option_map}
use Rattle.std.proofs.lemmas.Bool.{true≢false}
use Rattle.std.proofs.lemmas.List.Sorted.{All-permutation}
use Rattle.crack_row.specs.Rows.{is_other, replaced}
use Rattle.crack_row.specs.declared.Row.{Row}
use Rattle.crack_plain.proofs.Laws.{others-same, replaced-same}
use Rattle.crack_arena.specs.Arena.{Handle, times, slots}
use Rattle.crack_serials.specs.Serials.{handle_of}
use Rattle.crack_state.specs.State.{State, IsIntact, live_rows}
use Rattle.crack_state.specs.Points.{row_by, pending_by, Removes, Rewrites}
use Rattle.crack_state.proofs.LookUpLaws.{row_by-is, row_by-none, gone-cancels, gone-dooms, live-without, live-replaced}

-- no row of a list of the live rows has a serial that leads nowhere
plain-apart : (s : State) (serial : ℕ) (plain : List Row) → handle_of s.serials serial ≡ None → IsIntact s [] → IsPermutation (live_rows s) plain → All (λ (r : Row). r.serial.0 ≢ serial) plain
plain-apart s serial plain none intact same = All-permutation (λ (r : Row). r.serial.0 ≢ serial) (live_rows s) plain same (row_by-none s serial none intact)

-- the serial of a row that was removed is no longer in the map
pub gone-removes : (s t : State) (serial : ℕ) (o : Option Bool) → pending_by s serial ≡ o → Removes o serial s t → handle_of t.serials serial ≡ None
gone-removes s t serial None none same = rw same (by_handle (handle_of s.serials serial) refl none)
  where
    by_handle : (o : Option Handle) → handle_of s.serials serial ≡ o → option_map (λ (h : Handle). nat_lt 0 (times h.slot (slots s.pending_in))) o ≡ None → handle_of s.serials serial ≡ None
    by_handle None found e = found
    by_handle (Some h) found e = absurd (true≢false (ap is_some e))
gone-removes s t serial (Some true) pending cancels = gone-cancels serial s t cancels
gone-removes s t serial (Some false) pending dooms = gone-dooms serial s t dooms

-- a list of the live rows, without the row of a serial that was removed, if there was one
pub live-taken : (s t : State) (serial : ℕ) (o : Option Row) → o ≡ row_by s serial → IfSome o (λ r. IsPermutation (r ∷ live_rows t) (live_rows s)) → IfNone o (handle_of s.serials serial ≡ None) → Removes (pending_by s serial) serial s t → IsIntact s [] → IsIntact t [] → (plain : List Row) → IsPermutation (live_rows s) plain → IsPermutation (live_rows t) (filter (is_other serial) plain)
live-taken s t serial (Some row) is went none removes before after = λ plain same.
    live-without s t serial row plain (row_by-is s serial row (sym is) before).same (gone-removes s t serial (pending_by s serial) refl removes) after went same
live-taken s t serial None is went none removes before after = λ plain same.
    let still : t ≡ s = rw none at removes in
    rw (still, others-same serial plain (plain-apart s serial plain none before same)) same

-- a list of the live rows, with a row in the place of the one of its serial, if there was one
pub live-put : (s t : State) (row : Row) (o : Option Row) → IfSome o (λ _. IsPermutation (map (replaced row) (live_rows s)) (live_rows t)) → IfNone o (handle_of s.serials row.serial.0 ≡ None) → Rewrites (pending_by s row.serial.0) row s t → IsIntact s [] → (plain : List Row) → IsPermutation (live_rows s) plain → IsPermutation (live_rows t) (map (replaced row) plain)
live-put s t row (Some before) changed none rewrites intact = λ plain same. live-replaced s t row plain changed same
live-put s t row None changed none rewrites intact = λ plain same.
    let still : t ≡ s = rw none at rewrites in
    rw (still, replaced-same row plain (plain-apart s row.serial.0 plain none intact same)) same

-- what follows from an answer
pub on_err : {T E P : Type 0} (r : Result T E) → P → OnErr r P
on_err (Ok x) p = tt
on_err (Err e) p = p

pub on_ok : {T E P : Type 0} (r : Result T E) → P → OnOk r P
on_ok (Ok x) p = p
on_ok (Err e) p = tt
