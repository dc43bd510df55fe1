-- What private clauses alone cite.
-- What a walk over the bounds from the lowest up does to a column to which rows were appended, from the place `from`
-- on: these incoming rows pass the pieces and turn them (`swept`). `out`, the first list of handles, has the pending
-- deletions: a carry ends with a doomed row in hand. `low` and `high` are the bounds at which a piece begins and ends;
-- `high` is `None` for the last piece. `v` is the walk's visitor before a bound, `w` after it.
use Rattle.std.specs.Prelude.{◌≡◌, ℕ, ◌+◌, ◌≤◌, Bool, false, ◌||◌, nat_lt, count_by, min, Option, Some, None, List, ◌++◌, length, take, drop}
use Rattle.std.specs.List.{All, between}
use Rattle.crack_arena.specs.Arena.{Cell, Handle, times, slots}
use Rattle.crack_arena.specs.Rows.{key_at}
use Rattle.crack_row.specs.declared.InnerBound.{InnerBound}
use Rattle.crack_row.specs.declared.Row.{Row}
use Rattle.crack_arena.specs.Memories.{Remembers}
use Rattle.crack_index.specs.declared.mark.Mark.{Mark}
use Rattle.crack_state.specs.Sweeps.{Swept, goes_on, is_lower, any_lower, swept_by}
use Rattle.crack_state.specs.State.{greatest}
use Rattle.crack_store.specs.declared.sweeping.Sweep.{Sweep}

-- whether a carry ends with this row in hand: its cell is that of one of the pending deletions `out`
abbrev pub ends_in : List Handle → Handle → Bool
ends_in out h = nat_lt 0 (times h.slot (slots out)) || false

-- whether a row belongs to the piece that ends at this bound (true without a bound) or to a lower one; `out` is unused
abbrev pub up_to : List (Cell Row) → List Handle → Option InnerBound → Handle → Bool
up_to cells out None = any_lower (key_at cells) (ends_in out)
up_to cells out (Some bound) = is_lower (key_at cells) (ends_in out) bound.0

-- the result after the incoming rows, the second list, passed a piece with these bounds and the rows in the third list
abbrev pub sweep_of : List (Cell Row) → List Handle → ℕ → Option InnerBound → List Handle → List Handle → Swept Handle
sweep_of cells out low high ts rows = swept_by (key_at cells) (ends_in out) low (up_to cells out high) ts rows

-- how many rows of the second list turn a piece that begins at `low`: their keys are below it, and they aren't doomed
abbrev pub going_on : List (Cell Row) → List Handle → ℕ → List Handle → ℕ
going_on cells out low ts = count_by (goes_on (ends_in out) (is_lower (key_at cells) (ends_in out) low)) ts

-- how many rows of the second list go on from a piece that ends at `high`: with keys below it, if any, and not doomed
abbrev pub leaving : List (Cell Row) → List Handle → Option InnerBound → List Handle → ℕ
leaving cells out high ts = count_by (goes_on (ends_in out) (up_to cells out high)) ts

-- from the column's `handles` to `handles'` the rows from the place `from` on passed the piece at the places from
-- `start` up to `end`, and rows moved `made` times; all other handles are unchanged
pub record Sweeps (cells : List (Cell Row)) (out : List Handle) (low : ℕ) (high : Option InnerBound) (start end from : ℕ) (handles handles' : List Handle) (made : ℕ) : Type 0 where
  pub handles_are : handles' ≡ take start handles ++ ((sweep_of cells out low high (drop from handles) (between start end handles)).piece ++ (between end from handles ++ (sweep_of cells out low high (drop from handles) (between start end handles)).tail))
  pub made_is : made ≡ (sweep_of cells out low high (drop from handles) (between start end handles)).made

-- the next piece begins at or before the place of the first incoming row, and `count` of the incoming rows turn it. If
-- it begins at a bound at or below `floor`, all incoming rows have keys at or above `floor`
pub record IsSweepReady (v : Sweep) : Type 0 where
  pub order : v.start ≤ v.from
  pub within : v.from ≤ length v.column.handles
  pub remembers : Remembers v.arena.now.cells v.column.handles v.column.remembered
  pub counted : v.count ≡ going_on v.arena.now.cells v.pending_out.now.handles v.low (drop v.from v.column.handles)
  pub above : v.low ≤ v.floor.0 → All (λ h. v.floor.0 ≤ key_at v.arena.now.cells h) (drop v.from v.column.handles)
  pub small : v.moved ≤ greatest

-- from `v` to `w` the incoming rows passed the next piece, whose high bound is that of `m`. `place` is the bound's new
-- place: it rises by the number of rows that turn the piece after it
pub record SweepPasses (v : Sweep) (m : Mark) (place : ℕ) (w : Sweep) : Type 0 where
  pub made : ℕ
  pub sweeps : Sweeps v.arena.now.cells v.pending_out.now.handles v.low (Some m.bound) v.start m.position v.from v.column.handles w.column.handles made
  pub place_is : place ≡ m.position + w.count
  pub low_is : w.low ≡ m.bound.0
  pub start_is : w.start ≡ m.position
  pub from_is : w.from ≡ v.from
  pub out_is : w.pending_out ≡ v.pending_out
  pub arena_is : w.arena ≡ v.arena
  pub moved_is : w.moved ≡ min (v.moved + made) greatest
  pub ready : IsSweepReady w

-- at the mark the incoming rows pass the piece that its bound ends (`SweepPasses`), and `place` is the bound's new
-- place. Nothing is required if the mark's place is before that piece or after `from`, or its bound below `low`
abbrev pub SweepTurns : Sweep → Mark → ℕ → Sweep → Type 0
SweepTurns v m place w = v.start ≤ m.position → m.position ≤ v.from → v.low ≤ m.bound.0 → SweepPasses v m place w

-- from `v` to `w` the incoming rows passed the last piece
pub record IsSweptTo (v w : Sweep) : Type 0 where
  pub made : ℕ
  pub sweeps : Sweeps v.arena.now.cells v.pending_out.now.handles v.low None v.start v.from v.from v.column.handles w.column.handles made
  pub moved_is : w.moved ≡ min (v.moved + made) greatest
  pub from_is : w.from ≡ v.from
  pub out_is : w.pending_out ≡ v.pending_out
  pub arena_is : w.arena ≡ v.arena
  pub remembers : Remembers w.arena.now.cells w.column.handles w.column.remembered
  pub long : length w.column.handles ≡ length v.column.handles
