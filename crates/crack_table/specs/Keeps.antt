-- What private clauses alone cite.
-- The invariants of tables. `AreSplits` and `AreLimits` say which splits and limits are valid.
use Rattle.std.specs.Prelude.{◌≡◌, ℕ, ◌+◌, ◌<◌, ◌≤◌, List, length, Some, slice_get}
use Rattle.crack_row.specs.Limits.{AreLimits}
use Rattle.crack_row.specs.declared.Bound.{Bound}
use Rattle.crack_row.specs.declared.limit.Limits.{Limits}
use Rattle.crack_core.specs.Routes.{AreSplits}
use Rattle.crack_witness.specs.Witnesses.{OwnersDiffer, AreDistinct, WitnessedState}

-- the invariant of a table whose book has no name yet: its splits and limits are valid, it has 1 to 64 workers, and
-- `ids` has an owner for each partition, its number in the book, no two the same
pub record IsUnnamed (ids : List ℕ) (splits : List Bound) (limits : Limits) (workers : ℕ) : Type 0 where
  pub rising : AreSplits splits
  pub limited : AreLimits limits
  pub some : 0 < workers
  pub few : workers ≤ 64
  pub owners : length ids ≡ length splits + 1
  pub distinct : AreDistinct ids

-- the invariant of each table: its splits and limits are valid, it has at most 64 workers, there is a lock for each
-- partition, and no two partitions have the same owner
pub record IsTable (owner : ℕ → ℕ) (splits : List Bound) (limits : Limits) (workers locks : ℕ) : Type 0 where
  pub rising : AreSplits splits
  pub limited : AreLimits limits
  pub few : workers ≤ 64
  pub all : locks ≡ length splits + 1
  pub apart : OwnersDiffer owner locks

-- each partition has the number of its place, and counts the entries of this many workers
abbrev pub AreNumbered : ℕ → List WitnessedState → Type 0
AreNumbered workers parts = (place : ℕ) (w : WitnessedState) → slice_get parts place ≡ Some w → (w.part ≡ place) × (w.workers ≡ workers)
