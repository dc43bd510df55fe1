-- The rows of a partition have its keys.
use Rattle.std.specs.Prelude.{◌≡◌, ℕ, ◌<◌, ◌≤◌, ◌==◌, Bool, true, false, List, [], length, Option, None, IfSome, if◌then◌else◌}
use Rattle.std.specs.List.{range_with_len}
use Rattle.std.proofs.Common.{sym, subst, ⊎_elim}
use Rattle.std.proofs.lemmas.Bool.{cases_lt}
use Rattle.std.proofs.lemmas.List.{get_or_past}
use Rattle.std.proofs.lemmas.List.Sorted.{All-permutation}
use Rattle.crack_row.specs.Ranges.{Range, IsIn}
use Rattle.crack_row.specs.declared.Row.{Row}
use Rattle.crack_row.proofs.Lists.{All-filter_map}
use Rattle.crack_plain.specs.Plain.{by_serial}
use Rattle.crack_plain.proofs.OrderLaws.{IsPermutation-by_serial}
use Rattle.crack_plain.proofs.Words.{StandWithin}
use Rattle.crack_arena.specs.Arena.{Cell, cell_at, empty_cell, times, slots}
use Rattle.crack_state.specs.State.{State, IsIntact, live_at, live_rows}
use Rattle.crack_part.specs.Parts.{Part, IsSound, state_of}

-- a row's key is one of these
abbrev HasKeyIn : Range → Row → Type 0
HasKeyIn keys row = IsIn keys row.key.0

-- what is in a cell has a key of the store
cell-within : (s : State) (n : ℕ) → IsIntact s [] → IfSome (cell_at s.cells n).value (HasKeyIn s.keys)
cell-within s n intact = ⊎_elim
    (λ (there : n < length s.cells). intact.within n empty_cell there)
    (λ (past : length s.cells ≤ n). subst (λ (c : Cell Row). IfSome c.value (HasKeyIn s.keys)) (sym (get_or_past s.cells n empty_cell past)) tt)
    (cases_lt n (length s.cells))

live-within : (s : State) (n : ℕ) → IsIntact s [] → IfSome (live_at s.cells (slots s.pending_out) n) (HasKeyIn s.keys)
live-within s n intact = by_test (times n (slots s.pending_out) == 0)
  where
    by_test : (b : Bool) → IfSome (if b then (cell_at s.cells n).value else None) (HasKeyIn s.keys)
    by_test true = cell-within s n intact
    by_test false = tt

-- the rows of a sound partition have keys of the partition
pub rows-within : (p : Part) → IsSound p → StandWithin p.keys (state_of p).rows
rows-within p sound =
    let s = p.store in
    let live = All-filter_map (HasKeyIn s.keys) (live_at s.cells (slots s.pending_out)) (range_with_len 0 (length s.cells)) (λ n. live-within s n sound.intact) in
    subst (λ (keys : Range). StandWithin keys (state_of p).rows) sound.ends (All-permutation (HasKeyIn s.keys) (live_rows s) (by_serial (live_rows s)) (IsPermutation-by_serial (live_rows s)) live)
