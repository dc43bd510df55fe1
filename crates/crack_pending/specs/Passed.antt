-- What private clauses alone cite.
-- The effect of a pass that takes rows.
use Rattle.std.specs.Prelude.{◌≡◌, ℕ, ◌+◌, ◌≤◌, Bool, List, ◌++◌, length}
use Rattle.crack_row.specs.Ranges.{Range}
use Rattle.crack_row.specs.declared.Row.{Row}
use Rattle.crack_arena.specs.Arena.{Cell, Handle, times}
use Rattle.crack_arena.specs.Rows.{unknown}
use Rattle.crack_arena.specs.Memories.{Memory, Remembers}
use Rattle.crack_pending.specs.Codes.{Coding, AreCoded}
use Rattle.crack_pending.specs.Inside.{IsMissed}
use Rattle.crack_pending.specs.Keeps.{place_at, HasRow, keys_of}
use Rattle.crack_pending.specs.Pending.{rows_inside, rows_outside}
use Rattle.crack_pending.specs.Spots.{kept}

-- the effect of a pass that took `count` rows: those before the spot `start` whose keys are in the range. `before`
-- says which spots had a row, and `after` which have one now. `taken` are the handles `came`, taken earlier, followed
-- by those of the rows taken now; `gone` is what is remembered of all of these. The other rows stay in order, and
-- `unknowns` of them have unknown keys. The codes of the spots are as `AreCoded` says for `after`
pub record IsPassed (cells : List (Cell Row)) (range : Range) (handles : List Handle) (remembered : List Memory) (before after : List Bool) (codes : Coding) (came taken : List Handle) (gone : List Memory) (start count unknowns : ℕ) : Type 0 where
  pub within : start ≤ length handles
  pub missed : IsMissed range cells handles after 0 start
  pub taken_are : taken ++ rows_inside cells range (kept after handles) ≡ came ++ rows_inside cells range (kept before handles)
  pub outside : rows_outside cells range (kept after handles) ≡ rows_outside cells range (kept before handles)
  pub gone_are : Remembers cells taken gone
  pub known : Remembers cells (kept after handles) (kept after remembered)
  pub unknowns_are : unknowns ≡ times unknown (keys_of (kept after remembered))
  pub coded : AreCoded remembered after codes
  pub stood : (spot : ℕ) → HasRow after spot → HasRow before spot
  pub long : length after ≡ length before
  pub counted : place_at after (length after) + count ≡ place_at before (length before)
