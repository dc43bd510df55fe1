-- What private clauses alone cite.
-- Moves of blocks of rows in a column, for merges by piece. `old` and `new` are a column, or its handles, before and
-- after.
use Rattle.std.specs.Prelude.{◌≡◌, ℕ, ◌+◌, Bool, true, false, nat_lt, List, ◌++◌, length, take, drop}
use Rattle.std.specs.List.{All, between}
use Rattle.std.specs.List.Sorted.{IsPermutation}
use Rattle.crack_arena.specs.Arena.{Handle, times, slots}
use Rattle.crack_column.specs.Column.{Column, StillRemembers}

-- the rows at `middle..to` come before those at `from..middle`; each group has any order
pub record ChangesSides (from middle to : ℕ) (old new : List Handle) : Type 0 where
  pub low : List Handle
  pub high : List Handle
  pub handles_are : new ≡ take from old ++ (low ++ (high ++ drop to old))
  pub low_is : IsPermutation (between middle to old) low
  pub high_is : IsPermutation (between from middle old) high

-- the column has the same rows, remembers them as well as before, and has the same room
pub record KeepsRows (old new : Column) : Type 0 where
  pub long : length new.handles ≡ length old.handles
  pub room : new.room ≡ old.room
  pub remembered : StillRemembers old new

-- whether the handle's row is doomed: its cell is that of one of the pending deletions `out`
abbrev pub is_among : List Handle → Handle → Bool
is_among out h = nat_lt 0 (times h.slot (slots out))

-- of the rows at `from..to` those that aren't doomed come first, and the others begin at `live`
pub record Parts (out : List Handle) (from to : ℕ) (old new : List Handle) (live : ℕ) : Type 0 where
  pub stay : List Handle
  pub leave : List Handle
  pub handles_are : new ≡ take from old ++ (stay ++ (leave ++ drop to old))
  pub rows_are : IsPermutation (between from to old) (stay ++ leave)
  pub stays : All (λ h. is_among out h ≡ false) stay
  pub leaves : All (λ h. is_among out h ≡ true) leave
  pub live_is : live ≡ from + length stay
