-- How many cells a partition's rows take: never more than their limit.
use Rattle.std.proofs.Common.{◌≡◌, ℕ, ◌+◌, ◌<◌, ◌≤◌, Bool, true, false, List, [], ◌∷◌, length, Option, Some, None, arith, refl, ap, inl, inr, length-set, ◌&&◌, ◌==◌, nat_le}
use Rattle.std.specs.List.{filter_map, cons_option, range_with_len}
use Rattle.std.specs.List.Sorted.{IsPermutation}
use Rattle.std.proofs.lemmas.Bool.{cases_lt, both_ways, and_from, le-leb, eq-eqb}
use Rattle.std.proofs.lemmas.List.{length_push}
use Rattle.std.proofs.lemmas.List.FromFn.{length-range_with_len}
use Rattle.std.proofs.lemmas.List.Sorted.{length_permutation}
use Rattle.crack_row.specs.Commands.{change_of}
use Rattle.crack_row.specs.Ranges.{Range}
use Rattle.crack_row.specs.declared.Row.{Row}
use Rattle.crack_row.specs.Rows.{row_with}
use Rattle.crack_row.specs.declared.command.Change.{Change}
use Rattle.crack_row.specs.declared.command.Change.TheVariants.{Place, Remove, Rewrite}
use Rattle.crack_row.specs.declared.command.Command.{Command}
use Rattle.crack_row.specs.declared.command.Command.TheVariants.{Insert, Delete, Update, Count, Sum, Select}
use Rattle.crack_row.specs.declared.command.Policy.{Policy}
use Rattle.crack_arena.specs.Arena.{Cell, cell_at, slots, cells_with}
use Rattle.crack_state.specs.State.{State, live_at, live_rows}
use Rattle.crack_state.specs.Steps.{SameButRoom, row_inserted}
use Rattle.crack_state.specs.Points.{pending_by, handle_by, Removes, Rewrites}
use Rattle.crack_part.specs.Parts.{Performs, ServesCleared}
use Rattle.crack_part.specs.Inside.{inserted_row}
use Rattle.crack_part.specs.Cells.{takes_cell, lacks_cell}
use Rattle.crack_part.proofs.KeepLemmas.{Keeps-prepared}

length-cons_option : (o : Option Row) (rows : List Row) → length (cons_option o rows) ≤ length rows + 1
length-cons_option None rows = omega arith
length-cons_option (Some row) rows = omega arith

length-filter_map : (h : ℕ → Option Row) (ns : List ℕ) → length (filter_map h ns) ≤ length ns
length-filter_map h [] = omega arith
length-filter_map h (n ∷ ns) = omega (arith, length-cons_option (h n) (filter_map h ns), length-filter_map h ns)

-- there are no more rows than cells
pub rows-le-cells : (s : State) (plain : List Row) → IsPermutation (live_rows s) plain → length plain ≤ length s.cells
rows-le-cells s plain same =
    let numbers = range_with_len 0 (length s.cells) in
    omega (arith, length_permutation (live_rows s) plain same, length-filter_map (live_at s.cells (slots s.pending_out)) numbers, length-range_with_len 0 (length s.cells))

-- one more row takes a free cell, if there is one
length-cells_with : (row : Row) (cells : List (Cell Row)) (free : List ℕ) (most : ℕ) → length cells ≤ most → (length free ≡ 0 → length cells < most) → length (cells_with row cells free) ≤ most
length-cells_with row cells [] most few room = omega (arith, room refl, length_push cells (record { generation = 0; value = Some row }))
length-cells_with row cells (n ∷ ns) most few room = omega (arith, length-set cells n (record { generation = (cell_at cells n).generation; value = Some row }))

-- if a change doesn't lack a cell, there is room for one that it takes
room : (most : ℕ) (s : State) (change : Option Change) → lacks_cell most s change ≡ false → takes_cell s change ≡ true → length s.free ≡ 0 → length s.cells < most
room most s change not takes none = elim (cases_lt (length s.cells) most) [
  | inl less ↦ less
  | inr many ↦ absurd (both_ways (lacks_cell most s change) not (and_from (nat_le most (length s.cells)) ((length s.free == 0) && takes_cell s change) (le-leb most (length s.cells) many) (and_from (length s.free == 0) (takes_cell s change) (eq-eqb (length s.free) 0 none) takes)))
]

fits-row_inserted : (most : ℕ) (row : Row) (s t : State) → length s.cells ≤ most → (length s.free ≡ 0 → length s.cells < most) → SameButRoom (row_inserted row s) t → length t.cells ≤ most
fits-row_inserted most row s t few free same = omega (arith, ap (λ (u : State). length u.cells) same.same, length-cells_with row s.cells s.free most few free)

fits-removed : (most : ℕ) (serial : ℕ) (s t : State) (o : Option Bool) → length s.cells ≤ most → Removes o serial s t → length t.cells ≤ most
fits-removed most serial s t None few same = omega (arith, ap (λ (u : State). length u.cells) same)
fits-removed most serial s t (Some true) few cancels =
    let h = handle_by s serial in
    let c : Cell Row = record { generation = h.generation + 1; value = None } in
    omega (arith, ap (λ (u : State). length u.cells) cancels.after.same, length-set s.cells h.slot c)
fits-removed most serial s t (Some false) few dooms = omega (arith, ap (λ (u : State). length u.cells) dooms.after.same)

fits-replaced : (most : ℕ) (row : Row) (s t : State) (o : Option Bool) → length s.cells ≤ most → (o ≡ Some false → length s.free ≡ 0 → length s.cells < most) → Rewrites o row s t → length t.cells ≤ most
fits-replaced most row s t None few free same = omega (arith, ap (λ (u : State). length u.cells) same)
fits-replaced most row s t (Some true) few free rewrites =
    let h = handle_by s row.serial.0 in
    let c : Cell Row = record { generation = h.generation; value = Some row } in
    omega (arith, ap (λ (u : State). length u.cells) rewrites, length-set s.cells h.slot c)
fits-replaced most row s t (Some false) few free renews =
    omega (arith, ap (λ (u : State). length u.cells) renews.after.same, length-cells_with row s.cells s.free most few (free refl))

-- after a change that doesn't lack a cell there are no more cells than the limit
fits-performed : (most next : ℕ) (change : Option Change) (s t : State) → length s.cells ≤ most → lacks_cell most s change ≡ false → Performs next change s t → length t.cells ≤ most
fits-performed most next None s t few not same = omega (arith, ap (λ (u : State). length u.cells) same)
fits-performed most next (Some (Place key payload)) s t few not inserts =
    fits-row_inserted most (inserted_row next key payload) s t few (room most s (Some (Place key payload)) not refl) inserts
fits-performed most next (Some (Remove serial)) s t few not removes = fits-removed most serial.0 s t (pending_by s serial.0) few removes
fits-performed most next (Some (Rewrite serial key payload)) s t few not replaces =
    fits-replaced most (row_with serial key payload) s t (pending_by s serial.0) few (λ stands. room most s (Some (Rewrite serial key payload)) not (rw stands refl)) replaces

-- nor after a command's merges, which make no cell
pub fits-served : (policy : Policy) (keys : Range) (most next : ℕ) (command : Command) (s t : State) → length s.cells ≤ most → lacks_cell most s (change_of command) ≡ false → ServesCleared policy keys next command s t → length t.cells ≤ most
fits-served policy keys most next (Insert key payload) s t few not served = fits-performed most next (Some (Place key payload)) s t few not (rw served.prepared at served.performed)
fits-served policy keys most next (Delete serial) s t few not served = fits-performed most next (Some (Remove serial)) s t few not (rw served.prepared at served.performed)
fits-served policy keys most next (Update serial key payload) s t few not served = fits-performed most next (Some (Rewrite serial key payload)) s t few not (rw served.prepared at served.performed)
fits-served policy keys most next (Count range) s t few not served =
    omega (arith, ap (λ (u : State). length u.cells) served.performed, (Keeps-prepared policy keys (Some range) s served.ready served.prepared).cells)
fits-served policy keys most next (Sum range) s t few not served =
    omega (arith, ap (λ (u : State). length u.cells) served.performed, (Keeps-prepared policy keys (Some range) s served.ready served.prepared).cells)
fits-served policy keys most next (Select range) s t few not served =
    omega (arith, ap (λ (u : State). length u.cells) served.performed, (Keeps-prepared policy keys (Some range) s served.ready served.prepared).cells)
