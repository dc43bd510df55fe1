-- What private clauses alone cite.
-- What the visitor of a walk over the bounds does to the hand at a place. `v` is the visitor before that, `w` after
-- it. An exchange puts the hand at the place, and takes the row that was there into the hand.
use Rattle.std.specs.Prelude.{◌≡◌, ◌≢◌, ⊤, ◌<◌, ◌≤◌, ℕ, Bool, true, false, Option, Some, None, length}
use Rattle.crack_row.specs.declared.Bound.{Bound}
use Rattle.crack_arena.specs.Arena.{times, slots}
use Rattle.crack_arena.specs.Rows.{unknown}
use Rattle.crack_arena.specs.Memories.{Memory}
use Rattle.crack_column.specs.Column.{first_aside, exchanged_aside}
use Rattle.crack_state.specs.Steps.{more}
use Rattle.crack_store.specs.declared.ascent.Ascent.{Ascent}
use Rattle.crack_store.specs.declared.ascent.Descent.{Descent}

-- the memory of a row has its key, and the key is below the ceiling; nothing is required if there is no ceiling
abbrev pub IsKnownBelow : Option Bound → Memory → Type 0
IsKnownBelow None m = ⊤
IsKnownBelow (Some bound) m = (m.key ≢ unknown) × (m.key < bound.0)

-- from `v` to `w` the hand is exchanged with the row at `place`, which is in the column; one more row has moved. The
-- hand isn't doomed, and its remembered key is below the ceiling, if there is one
pub record TakesUp (v : Ascent) (place : ℕ) (w : Ascent) : Type 0 where
  pub within : place < length v.column.handles
  pub lasting : times (first_aside v.column).handle.slot (slots v.pending_out.now.handles) ≡ 0
  pub below : IsKnownBelow v.ceiling (first_aside v.column).memory
  pub column : w.column ≡ exchanged_aside place v.column
  pub moved : w.moved ≡ more v.moved
  pub pending_out : w.pending_out ≡ v.pending_out
  pub ceiling : w.ceiling ≡ v.ceiling

-- `true`: the hand is exchanged with the row at the place (`TakesUp`); `false`: its way ends, and nothing changes
abbrev pub Ascends : Ascent → ℕ → Bool → Ascent → Type 0
Ascends v place true w = TakesUp v place w
Ascends v place false w = w ≡ v

-- from `v` to `w` the hand is exchanged with the row at `place`, which is in the column and not before the place where
-- the hand's way down ends (`v.place`); one more row was pulled
pub record TakesDown (v : Descent) (place : ℕ) (w : Descent) : Type 0 where
  pub ahead : v.place ≤ place
  pub within : place < length v.column.handles
  pub column : w.column ≡ exchanged_aside place v.column
  pub pulled : w.pulled ≡ more v.pulled
  pub goal : w.place ≡ v.place

-- `true`: the hand is exchanged with the row at the place, as `TakesDown` says; `false`: nothing changes, since the
-- place is before the one where the hand's way ends, or past the column
abbrev pub Draws : Descent → ℕ → Bool → Descent → Type 0
Draws v place true w = TakesDown v place w
Draws v place false w = (w ≡ v) × (v.place ≤ place → length v.column.handles ≤ place)
