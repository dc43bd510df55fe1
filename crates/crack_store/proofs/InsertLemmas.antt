-- The cell of a row that is inserted.
use Rattle.std.proofs.Common.{◌≡◌, ℕ, zero, suc, ◌+◌, ◌-◌, ◌<◌, ◌≤◌, List, [], ◌∷◌, length, drop, Some, refl, ◌∙◌, inl, inr, arith, length-set}
use Rattle.std.specs.Prelude.{nat_eq}
use Rattle.std.proofs.lemmas.Bool.{cases_lt, le-ltb}
use Rattle.std.proofs.lemmas.List.{length_push}
use mir.Val.{bool_byte}
use Rattle.crack_row.specs.declared.Row.{Row}
use Rattle.crack_arena.specs.Arena.{Cell, Handle, times, cell_at, handle_for, cells_with}
use Rattle.crack_arena.proofs.Times.{times_head}
use Rattle.crack_state.specs.State.{State, IsIntact}
use Rattle.crack_state.specs.Steps.{next_handle}
use Rattle.crack_state.proofs.OwnedLaws.{places_of, times-places}

-- there is one more cell if none was free
length_cells_with : (row : Row) (cells : List (Cell Row)) (free : List ℕ) → length (cells_with row cells free) ≡ length cells + (1 - length free)
length_cells_with row cells [] = length_push cells (record { generation = 0; value = Some row })
length_cells_with row cells (n ∷ ns) = omega (arith, length-set cells n (record { generation = (cell_at cells n).generation; value = Some row }))

-- the number of the row's cell is that of one of the cells then
next_within : (row : Row) (s : State) (free : List ℕ) → s.free ≡ free → IsIntact s [] → (handle_for s.cells free).slot < length (cells_with row s.cells free)
next_within row s [] is intact = omega (arith, length_push s.cells (record { generation = 0; value = Some row }))
next_within row s (n ∷ ns) is intact = elim (cases_lt n (length s.cells)) [
  | inl l ↦ omega (arith, length-set s.cells n (record { generation = (cell_at s.cells n).generation; value = Some row }))
  | inr l ↦
      let listed : 0 < times n s.free = rw is (omega (arith, times_head n ns)) in
      let none : times n (places_of s []) ≡ 0 = intact.owned.once n ∙ rw (le-ltb n (length s.cells) l) refl in
      absurd (omega (arith, times-places n s.column s.pending_in s.free []))
]

-- if as many cells are covered as there will be, each is
pub all_covered : (row : Row) (s : State) (covered : ℕ) → length s.cells + (1 - length s.free) ≤ covered → length (cells_with row s.cells s.free) ≤ covered
all_covered row s covered enough = omega (arith, length_cells_with row s.cells s.free)

-- as many cells are covered if a test says whether there will be one more
pub with_new_cell : (s : State) (cells free covered : ℕ) → cells ≡ length s.cells → free ≡ length s.free → cells + bool_byte (nat_eq free 0) ≤ covered → length s.cells + (1 - length s.free) ≤ covered
with_new_cell s cells zero covered cells_is free_is enough = omega (arith, cells_is, free_is, enough)
with_new_cell s cells (suc free) covered cells_is free_is enough = omega (arith, cells_is, free_is, enough)

-- and so is the row's
pub is_covered : (row : Row) (s : State) (h : Handle) (covered : ℕ) → h ≡ next_handle s → length s.cells + (1 - length s.free) ≤ covered → IsIntact s [] → h.slot < covered
is_covered row s h covered is enough intact =
    let within : h.slot < length (cells_with row s.cells s.free) = rw is (next_within row s s.free refl intact) in
    omega (arith, within, all_covered row s covered enough)

-- if as many cells are covered as more rows need, they are after one of them
pub covered-next : (row : Row) (cells : List (Cell Row)) (free : List ℕ) (count covered : ℕ) → length cells + (suc count - length free) ≤ covered → length (cells_with row cells free) + (count - length (drop 1 free)) ≤ covered
covered-next row cells [] count covered enough = omega (arith, enough, length_cells_with row cells [])
covered-next row cells (n ∷ ns) count covered enough = omega (arith, enough, length_cells_with row cells (n ∷ ns))
