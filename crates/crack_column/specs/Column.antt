-- The contents of a column, and what operations do to them. `from..to` are the places from `from` up to but not
-- including `to`. At most one handle is aside: stored after the last place, it isn't part of the column.
use Rattle.std.specs.Prelude.{◌≡◌, ℕ, ◌+◌, ◌-◌, ◌<◌, ◌≤◌, List, [], ◌∷◌, ◌++◌, length, map, take, drop, slice_index, slice_index_or, slice_set}
use Rattle.std.specs.List.{between}
use Rattle.std.specs.List.Sorted.{IsPermutation}
use Rattle.crack_row.specs.declared.Row.{Row}
use Rattle.crack_arena.specs.Arena.{Cell, Handle, no_handle}
use Rattle.crack_arena.specs.Rows.{key_at, no_payload}
use Rattle.crack_arena.specs.Memories.{Memory, nothing, memory_at, Agrees, Remembers}

-- a handle, and what is remembered about its row: the handle aside, or the one at a place
pub record Aside : Type 0 where
  pub handle : Handle
  pub memory : Memory

-- a column: its handles by place, what is remembered about the row of each, how many more handles fit without taking
-- memory, and what is stored after the last place. Of that only the first element counts, the handle aside
pub record Column : Type 0 where
  pub handles : List Handle
  pub remembered : List Memory
  pub room : ℕ
  pub aside : List Aside

-- what stands for the handle aside if no handle is aside
abbrev pub no_aside : Aside
no_aside = record { handle = no_handle; memory = record { key = 0; payload = no_payload } }

-- the handle aside, and what is remembered about its row; `no_aside` if no handle is aside
abbrev pub first_aside : Column → Aside
first_aside c = slice_index_or c.aside 0 no_aside

-- the handle at a place, and what is remembered about its row; `no_handle` and `nothing` without such a place
abbrev pub standing_at : ℕ → Column → Aside
standing_at place c = record { handle = slice_index_or c.handles place no_handle; memory = slice_index_or c.remembered place nothing }

-- the column with this handle aside, in place of the one that was aside, if any
abbrev pub with_aside : Aside → Column → Column
with_aside a c = record c { aside = a ∷ drop 1 c.aside }

-- the column after the handle aside was exchanged with the one at a place, each with what is remembered about its row
abbrev pub exchanged_aside : ℕ → Column → Column
exchanged_aside place c = record c {
  handles = slice_set c.handles place (first_aside c).handle;
  remembered = slice_set c.remembered place (first_aside c).memory;
  aside = standing_at place c ∷ drop 1 c.aside;
}

-- the column after the handle aside was appended, with what is remembered about its row; its room is one less
abbrev pub appended_aside : Column → Column
appended_aside c = record {
  handles = c.handles ++ (first_aside c).handle ∷ [];
  remembered = c.remembered ++ (first_aside c).memory ∷ [];
  room = c.room - 1;
  aside = drop 1 c.aside;
}

-- the column after its last handle was set aside, with what is remembered about its row; its room is one more
abbrev pub popped_aside : Column → Column
popped_aside c = record {
  handles = take (length c.handles - 1) c.handles;
  remembered = take (length c.handles - 1) c.remembered;
  room = c.room + 1;
  aside = standing_at (length c.handles - 1) c ∷ c.aside;
}

-- the list after the elements at the places `one` and `other` were exchanged; `d` is the default outside the list
abbrev pub swapped : {X : Type 0} → X → ℕ → ℕ → List X → List X
swapped d one other xs = slice_set (slice_set xs one (slice_index_or xs other d)) other (slice_index_or xs one d)

-- the first column is `old`, before a call, and the second `new`, after it. For any cells: if what `old` remembers of
-- its rows agrees with the cells (`Remembers`), so does what `new` remembers
abbrev pub StillRemembers : Column → Column → Type 0
StillRemembers old new = (cells : List (Cell Row)) → Remembers cells old.handles old.remembered → Remembers cells new.handles new.remembered

-- as `StillRemembers`, for a call that brings the handle `h`, with the memory `m` of its row, into the column, and for
-- any cells in which `m` agrees with that row (`Agrees`)
abbrev pub StillRemembersWith : Handle → Memory → Column → Column → Type 0
StillRemembersWith h m old new = (cells : List (Cell Row)) → Remembers cells old.handles old.remembered → Agrees cells h m → Remembers cells new.handles new.remembered

-- the keys before the place `place` are below the bound, and all others aren't; `place` is at most the number of keys
pub record IsDividedAt (bound : ℕ) (keys : List ℕ) (place : ℕ) : Type 0 where
  pub within : place ≤ length keys
  pub below : (k : ℕ) → k < place → slice_index keys k < bound
  pub above : (k : ℕ) → place ≤ k → k < length keys → bound ≤ slice_index keys k

-- a crack at `bound` turned `handles` and `remembered`, by place, into `handles'` and `remembered'`. The handles at
-- `from..to` were reordered: those with keys below the bound come before `place`, the others from it on. Their keys,
-- and what is then remembered about their rows, are those in `cells`. All other places are unchanged
pub record Cracks (cells : List (Cell Row)) (bound from to : ℕ) (handles : List Handle) (remembered : List Memory) (handles' : List Handle) (remembered' : List Memory) (place : ℕ) : Type 0 where
  pub within : to ≤ length handles
  pub piece : List Handle
  pub kept : IsPermutation (between from to handles) piece
  pub handles_are : handles' ≡ take from handles ++ piece ++ drop to handles
  pub remembered_are : remembered' ≡ take from remembered ++ map (memory_at cells) piece ++ drop to remembered
  pub low : from ≤ place
  pub high : place ≤ to
  pub divided : IsDividedAt bound (map (key_at cells) piece) (place - from)
