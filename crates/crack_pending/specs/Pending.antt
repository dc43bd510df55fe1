-- What contracts see of a list of pending rows. The list remembers its rows correctly in some cells if what it has
-- beside each handle is the key and payload that the handle reads there, or nothing (`Remembers`).
use Rattle.std.specs.Prelude.{◌≡◌, ◌≢◌, ℕ, ◌<◌, ◌≤◌, not, List, filter, length, Option, Some, None, slice_index, slice_index_or}
use Rattle.crack_row.specs.Ranges.{Range, IsIn, is_in}
use Rattle.crack_row.specs.declared.Row.{Row}
use Rattle.crack_arena.specs.Arena.{Cell, Handle, place_in, no_handle}
use Rattle.crack_arena.specs.Rows.{key_at}
use Rattle.crack_arena.specs.Memories.{Memory, memory_at, Agrees, Remembers}

-- the handles in order of arrival, what is remembered of their rows, how many pushes need no memory, and how many
-- cells, counted from the first, may have a handle in the list
pub record Pending : Type 0 where
  pub handles : List Handle
  pub remembered : List Memory
  pub room : ℕ
  pub covered : ℕ

-- in any cells in which the old list remembers its rows correctly, so does the new one
abbrev pub StillRemembersRows : Pending → Pending → Type 0
StillRemembersRows old new =
    (cells : List (Cell Row)) → Remembers cells old.handles old.remembered → Remembers cells new.handles new.remembered

-- for a row added with this handle and memory: in any cells in which the memory agrees with the row that the handle
-- reads (`Agrees`), and the old list remembers its rows correctly, so does the new one
abbrev pub RemembersOneMore : Handle → Memory → Pending → Pending → Type 0
RemembersOneMore handle memory old new =
    (cells : List (Cell Row)) → Agrees cells handle memory → Remembers cells old.handles old.remembered → Remembers cells new.handles new.remembered

-- for a row remembered anew by this memory, whose handle in the old list names the cell with the number `slot`: if the
-- old list remembers its rows correctly in `cells`, the new one does in `cells'`. There the memory must agree with the
-- row (`Agrees`), and the handles of other cells must read the same keys and payloads as in `cells`
abbrev pub RemembersAnew : ℕ → Memory → Pending → Pending → Type 0
RemembersAnew slot memory old new =
    (cells cells' : List (Cell Row)) → Agrees cells' (slice_index_or old.handles (place_in old.handles slot) no_handle) memory → ((h : Handle) → h.slot ≢ slot → memory_at cells' h ≡ memory_at cells h) → Remembers cells old.handles old.remembered → Remembers cells' new.handles new.remembered

-- no key at the places from `from` up to but not including `to` lies in the range
abbrev pub NoneIn : Range → List ℕ → ℕ → ℕ → Type 0
NoneIn range keys from to = (k : ℕ) → from ≤ k → k < to → ¬ IsIn range (slice_index keys k)

-- the place is the first at or after `from` whose key lies in the range
pub record IsFirstIn (range : Range) (keys : List ℕ) (from place : ℕ) : Type 0 where
  pub after : from ≤ place
  pub within : place < length keys
  pub holds : IsIn range (slice_index keys place)
  pub before : NoneIn range keys from place

-- the result of a search from `from` on: the first place whose key lies in the range, or `None` if there is none
abbrev pub Finds : Range → List ℕ → ℕ → Option ℕ → Type 0
Finds range keys from (Some place) = IsFirstIn range keys from place
Finds range keys from None = NoneIn range keys from (length keys)

-- the handles whose rows have their key in the range, in order
abbrev pub rows_inside : List (Cell Row) → Range → List Handle → List Handle
rows_inside cells range handles = filter (λ h. is_in range (key_at cells h)) handles

-- the handles whose rows have their key outside the range, in order
abbrev pub rows_outside : List (Cell Row) → Range → List Handle → List Handle
rows_outside cells range handles = filter (λ h. not (is_in range (key_at cells h))) handles
