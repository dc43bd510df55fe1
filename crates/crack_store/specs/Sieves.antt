-- What private clauses alone cite.
-- What a walk over the bounds from the highest down does at a bound: incoming rows below it move past the piece above
-- it. The walk's visitor, `v` before and `w` after that, has the incoming rows at the places `from..to`.
use Rattle.std.specs.Prelude.{◌≡◌, ℕ, ◌+◌, ◌-◌, ◌<◌, ◌≤◌, min, List, length, slice_index_or}
use Rattle.std.specs.List.{between}
use Rattle.crack_arena.specs.Arena.{Cell, Handle, IsAbsent, no_handle}
use Rattle.crack_arena.specs.Rows.{key_at}
use Rattle.crack_row.specs.declared.Row.{Row}
use Rattle.crack_column.specs.Column.{StillRemembers}
use Rattle.crack_column.specs.Sifts.{AreRead, Sifts}
use Rattle.crack_index.specs.declared.mark.Mark.{Mark}
use Rattle.crack_state.specs.State.{State, greatest}
use Rattle.crack_state.specs.Steps.{piece_start, piece_end}
use Rattle.crack_store.specs.declared.sifting.Sieve.{Sieve}

-- the places of the incoming rows, from `from` up to `to`, are in the column
pub record IsSieveReady (v : Sieve) : Type 0 where
  pub order : v.from ≤ v.to
  pub within : v.to ≤ length v.column.handles

-- from `v` to `w` the incoming rows were sifted through the piece above the bound of `m`, which rises by `rise`, the
-- number of those below it. These are the incoming rows of `w`, from the place of `m` on
pub record SievePasses (v : Sieve) (m : Mark) (rise : ℕ) (w : Sieve) : Type 0 where
  pub made : ℕ
  pub sifts : (cells : List (Cell Row)) → AreRead cells v.from v.to v.column → Sifts cells m.bound.0 m.position v.from v.to v.column w.column rise made
  pub few : rise ≤ v.to - v.from
  pub from_is : w.from ≡ m.position
  pub to_is : w.to ≡ m.position + rise
  pub moved_is : w.moved ≡ min (v.moved + made) greatest
  pub long : length w.column.handles ≡ length v.column.handles
  pub room : w.column.room ≡ v.column.room
  pub remembered : StillRemembers v.column w.column

-- what a sieve does at a mark, whose bound rises by the number: as `SievePasses` says if the mark's place isn't after
-- the first incoming row; otherwise nothing is required
abbrev pub SieveRises : Sieve → Mark → ℕ → Sieve → Type 0
SieveRises v m rise w = m.position ≤ v.from → SievePasses v m rise w

-- the row of this handle isn't among the first `count` rows of its own piece, that of its key
abbrev pub IsClear : ℕ → State → Handle → Type 0
IsClear count s h =
    let from = piece_start s (key_at s.cells h) in
    IsAbsent (between from (min (piece_end s (key_at s.cells h)) (from + count)) s.column) h

-- no doomed row of the store is among the first `count` rows of its own piece
abbrev pub AreClear : ℕ → State → Type 0
AreClear count s = (k : ℕ) → k < length s.pending_out → IsClear count s (slice_index_or s.pending_out k no_handle)
