-- A run of rows, of which some were inserted.
use Rattle.std.proofs.Common.{◌≡◌, ◌≢◌, ℕ, zero, suc, ◌+◌, ◌<◌, ◌≤◌, ℤ, pos, List, [], ◌∷◌, ◌++◌, length, get_or, drop, take, None, Some, refl, ap, ◌∙◌, arith, length-set}
use Rattle.std.specs.List.{All}
use Rattle.std.specs.List.Sorted.{IsPermutation}
use Rattle.std.proofs.lemmas.Bool.{ne_eqb}
use Rattle.std.proofs.lemmas.List.{length_push, append_assoc}
use Rattle.std.proofs.lemmas.List.Elements.{All-get_or}
use Rattle.std.proofs.lemmas.List.Sorted.{IsPermutation-refl, IsPermutation-trans, IsPermutation-cons, IsPermutation-middle}
use Rattle.crack_row.specs.Ranges.{IsIn}
use Rattle.crack_row.specs.declared.Row.{Row}
use Rattle.crack_arena.specs.declared.TheConstants.{MOST_CELLS}
use Rattle.crack_arena.specs.Arena.{Cell, cell_at, cells_with}
use Rattle.crack_serials.specs.Serials.{handle_of}
use Rattle.crack_serials.proofs.Laws.{Maps-placed}
use Rattle.crack_state.specs.State.{State, live_rows}
use Rattle.crack_state.specs.Steps.{row_inserted, next_handle, IsInsertable, SameButRoom}
use Rattle.crack_store.specs.Runs.{run_rows, rows_inserted, AreInsertable}
use Rattle.crack_store.specs.Rooms.{row_of_run}

-- so many rows of a run, from the first on, were inserted, and the others may be
pub record IsRun (first : ℕ) (keys : List ℕ) (payloads : List ℤ) (s : State) (n : ℕ) (t : State) : Type 0 where
  pub after : SameButRoom (rows_inserted (take n (run_rows first keys payloads)) s) t
  pub live : IsPermutation (take n (run_rows first keys payloads) ++ live_rows s) (live_rows t)
  pub fresh : (serial : ℕ) → first + n ≤ serial → serial < first + length keys → handle_of t.serials serial ≡ None
  pub within : All (IsIn t.keys) keys
  pub cells : length t.cells + length keys ≤ MOST_CELLS + length t.free + n

pub IsRun-none : (first : ℕ) (keys : List ℕ) (payloads : List ℤ) (s : State) → AreInsertable first keys s → IsRun first keys payloads s 0 s
IsRun-none first keys payloads s may = record {
  after = record { same = refl };
  live = IsPermutation-refl (live_rows s);
  fresh = λ serial from to. may.fresh serial (omega (arith, from)) to;
  within = may.within;
  cells = omega (arith, may.cells);
}

-- the next row may be inserted
pub IsRun-may : (first : ℕ) (keys : List ℕ) (payloads : List ℤ) (s : State) (n : ℕ) (t : State) → IsRun first keys payloads s n t → n < length keys → IsInsertable (row_of_run first keys payloads n) t
IsRun-may first keys payloads s n t run more = record {
  fresh = run.fresh (first + n) (omega arith) (omega (arith, more));
  within = All-get_or (IsIn t.keys) keys n 0 more run.within;
  cell = omega (arith, run.cells, more);
}

-- the rows of a run up to one more
rows-next : (first : ℕ) (keys : List ℕ) (payloads : List ℤ) (n : ℕ) → n < length keys → length payloads ≡ length keys → take (suc n) (run_rows first keys payloads) ≡ take n (run_rows first keys payloads) ++ row_of_run first keys payloads n ∷ []
rows-next first [] payloads n more same = absurd (omega (arith, more))
rows-next first (k ∷ ks) [] n more same = absurd (omega (arith, same))
rows-next first (k ∷ ks) (p ∷ ps) zero more same = let e : first ≡ first + 0 = omega arith in ap (λ (serial : ℕ). record { serial = record { 0 = serial }; key = record { 0 = k }; payload = record { 0 = p } } ∷ []) e
rows-next first (k ∷ ks) (p ∷ ps) (suc n) more same =
    let e : suc first + n ≡ first + suc n = omega arith in
    let row : Row = record { serial = record { 0 = first }; key = record { 0 = k }; payload = record { 0 = p } } in
    ap (λ (rows : List Row). row ∷ rows) (rows-next (suc first) ks ps n (omega (arith, more)) (omega (arith, same)) ∙ ap (λ (serial : ℕ). take n (run_rows (suc first) ks ps) ++ record { serial = record { 0 = serial }; key = record { 0 = get_or ks n 0 }; payload = record { 0 = get_or ps n (pos 0) } } ∷ []) e)

-- one more row is inserted after the others
row_inserted-last : (rows : List Row) (row : Row) (s : State) → rows_inserted (rows ++ row ∷ []) s ≡ row_inserted row (rows_inserted rows s)
row_inserted-last [] row s = refl
row_inserted-last (r ∷ rows) row s = row_inserted-last rows row (row_inserted r s)

-- the room that a store has doesn't matter
row_inserted-room : (row : Row) (s t u : State) → SameButRoom s t → SameButRoom (row_inserted row t) u → SameButRoom (row_inserted row s) u
row_inserted-room row s t u same next = record { same = next.same ∙ ap (λ (x : State). record (row_inserted row x) { column_room = u.column_room; in_room = u.in_room }) same.same }

-- the cells that are left
cells-next : (row : Row) (cells : List (Cell Row)) (free : List ℕ) (keys n : ℕ) → length cells + keys ≤ MOST_CELLS + length free + n → length (cells_with row cells free) + keys ≤ MOST_CELLS + length (drop 1 free) + (n + 1)
cells-next row cells [] keys n few = omega (arith, few, length_push cells (record { generation = 0; value = Some row }))
cells-next row cells (m ∷ ms) keys n few = omega (arith, few, length-set cells m (record { generation = (cell_at cells m).generation; value = Some row }))

-- the next row was inserted
pub IsRun-next : (first : ℕ) (keys : List ℕ) (payloads : List ℤ) (s : State) (n : ℕ) (t u : State) → length payloads ≡ length keys → n < length keys → IsRun first keys payloads s n t → SameButRoom (row_inserted (row_of_run first keys payloads n) t) u → IsPermutation (row_of_run first keys payloads n ∷ live_rows t) (live_rows u) → IsRun first keys payloads s (n + 1) u
IsRun-next first keys payloads s n t u beside more run after live =
    let row = row_of_run first keys payloads n in
    let so_far = take n (run_rows first keys payloads) in
    let step : n + 1 ≡ suc n = omega arith in
    let rows : take (n + 1) (run_rows first keys payloads) ≡ so_far ++ row ∷ [] = ap (λ k. take k (run_rows first keys payloads)) step ∙ rows-next first keys payloads n more beside in
    let left : (serial : ℕ) → first + (n + 1) ≤ serial → serial < first + length keys → handle_of (row_inserted row t).serials serial ≡ None = λ serial from to.
    let apart : first + n ≢ serial = λ e. absurd (omega (arith, e, from)) in
    Maps-placed (first + n) (next_handle t) t.serials (run.fresh (first + n) (omega arith) (omega (arith, more))) serial ∙ rw (ne_eqb (first + n) serial apart) (run.fresh serial (omega (arith, from)) to) in
    let before = IsPermutation-cons row (so_far ++ live_rows s) (live_rows t) run.live in
    let added : IsPermutation ((so_far ++ row ∷ []) ++ live_rows s) (live_rows u) = rw (append_assoc so_far (row ∷ []) (live_rows s)) (IsPermutation-trans (so_far ++ row ∷ live_rows s) (row ∷ live_rows t) (live_rows u) (IsPermutation-trans (so_far ++ row ∷ live_rows s) (row ∷ (so_far ++ live_rows s)) (row ∷ live_rows t) (IsPermutation-middle so_far row (live_rows s)) before) live) in
    record {
      after = rw (rows, row_inserted-last so_far row s) (row_inserted-room row (rows_inserted so_far s) t u run.after after);
      live = rw rows added;
      fresh = rw (after.same) left;
      within = rw (after.same) run.within;
      cells = rw (after.same) (cells-next row t.cells t.free (length keys) n run.cells);
    }
