-- What private clauses alone cite.
-- `handles`, `remembered` and `stands` have an entry for each spot; `stands` says which have a row, the others are
-- holes. `spots` notes spots by cell number. `slot` is a cell number, and `cells` are the arena's cells.
use Rattle.std.specs.Prelude.{◌≡◌, ◌≢◌, ℕ, ◌<◌, ◌≤◌, Bool, List, slice_index_or}
use Rattle.crack_row.specs.Ranges.{Range, IsIn}
use Rattle.crack_row.specs.declared.Row.{Row}
use Rattle.crack_arena.specs.Arena.{Cell, Handle, no_handle}
use Rattle.crack_arena.specs.Rows.{key_at, unknown}
use Rattle.crack_arena.specs.Memories.{Memory, nothing, Agrees}
use Rattle.crack_pending.specs.Keeps.{HasRow, LeadsTo}

-- `key`, which may also be a code, is at least `low` and at most `last`
abbrev pub Lies : ℕ → ℕ → ℕ → Type 0
Lies low last key = (low ≤ key) × (key ≤ last)

-- the key of each row is remembered: what is stored for it isn't `unknown`
abbrev pub KeysAreKnown : List Memory → List Bool → Type 0
KeysAreKnown remembered stands = (spot : ℕ) → HasRow stands spot → (slice_index_or remembered spot nothing).key ≢ unknown

-- what is remembered of each row is the key and payload that its handle reads in these cells, or nothing (`Agrees`)
abbrev pub KnowRows : List (Cell Row) → List Handle → List Memory → List Bool → Type 0
KnowRows cells handles remembered stands =
    (spot : ℕ) → HasRow stands spot → Agrees cells (slice_index_or handles spot no_handle) (slice_index_or remembered spot nothing)

-- no row at the spots from `from` up to but not including `to` has its key in the range
abbrev pub IsMissed : Range → List (Cell Row) → List Handle → List Bool → ℕ → ℕ → Type 0
IsMissed range cells handles stands from to =
    (spot : ℕ) → from ≤ spot → spot < to → HasRow stands spot → ¬ IsIn range (key_at cells (slice_index_or handles spot no_handle))

-- the spot is the first one, from `from` up to but not including `to`, whose row has its key in the range
pub record IsHit (range : Range) (cells : List (Cell Row)) (handles : List Handle) (stands : List Bool) (from to spot : ℕ) : Type 0 where
  pub after : from ≤ spot
  pub within : spot < to
  pub stands_there : HasRow stands spot
  pub holds : IsIn range (key_at cells (slice_index_or handles spot no_handle))
  pub before : IsMissed range cells handles stands from spot

-- the spot has a row whose handle names the cell with the number `slot`
pub record IsSpotWith (handles : List Handle) (stands : List Bool) (slot spot : ℕ) : Type 0 where
  pub stands_there : HasRow stands spot
  pub of : (slice_index_or handles spot no_handle).slot ≡ slot

-- no row's handle names the cell with the number `slot`
abbrev pub IsNowhere : List Handle → List Bool → ℕ → Type 0
IsNowhere handles stands slot = (spot : ℕ) → ¬ IsSpotWith handles stands slot spot

-- if a row's handle names the cell with the number `slot`, `spots` notes another spot for the cell, or none
abbrev pub IsUnnoted : List Handle → List Bool → List ℕ → ℕ → Type 0
IsUnnoted handles stands spots slot = (spot : ℕ) → IsSpotWith handles stands slot spot → ¬ LeadsTo spots slot spot

-- no row at the spot `from` or after it has a handle that names the cell with the number `slot`
abbrev pub IsNotBehind : List Handle → List Bool → ℕ → ℕ → Type 0
IsNotBehind handles stands slot from = (spot : ℕ) → from ≤ spot → ¬ IsSpotWith handles stands slot spot
