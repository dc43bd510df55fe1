-- What a contract sees of an arena and its handles. An arena stores values in cells, numbered from 0. A put stores a
-- value in a free cell or in a new one, and returns a handle of the cell. Freeing a cell raises its generation, so
-- handles that were made before read nothing from then on.
use Rattle.crack_arena.specs.declared.TheConstants.{MOST_CELLS}
use Rattle.std.specs.Prelude.{◌≡◌, ℕ, ◌+◌, ◌-◌, ◌<◌, ◌≤◌, ◌==◌, ◌&&◌, Bool, List, length, [], ◌∷◌, ◌++◌, Option, Some, None, is_some, is_none, slice_index_or, slice_set, map, refl, sum_by, count_by, cond, nat_lt, drop}
use Rattle.std.specs.List.{position_or_len}
use Rattle.std.specs.Coded.{Coded, code_by, coded×, coded_ℕ, coded_list, coded_option}

-- a handle: the number of its cell (`slot`), and the cell's generation when the handle was made
pub record Handle : Type 0 where
  pub slot : ℕ
  pub generation : ℕ

-- whether two handles have the same cell number and generation
abbrev pub same_handle : Handle → Handle → Bool
same_handle h k = (h.slot == k.slot) && (h.generation == k.generation)

-- the code of handles in the logic: a handle is coded as the pair of its cell number and its generation
abbrev pub handle_code : Coded Handle
handle_code =
    code_by (ℕ × ℕ) (coded× coded_ℕ coded_ℕ) (λ h. (h.slot, h.generation)) (λ p. record { slot = p.0; generation = p.1 }) (λ _. refl)

-- a cell: how often it was freed (`generation`), and its value, or none if it is free
pub record Cell (T : Type 0) : Type 0 where
  pub generation : ℕ
  pub value : Option T

-- an arena: its cells by number; its free list, the numbers of the free cells in the order in which puts use them; and
-- its room, how many puts take no memory
pub record Arena (T : Type 0) : Type 0 where
  pub cells : List (Cell T)
  pub free : List ℕ
  pub room : ℕ

-- the code of cells, made from a code of their values: a cell is coded as the pair of its generation and its value
abbrev pub cell_code : {T : Type 0} → Coded T → Coded (Cell T)
cell_code {T} code =
    code_by (ℕ × Option T) (coded× coded_ℕ (coded_option code)) (λ c. (c.generation, c.value)) (λ p. record { generation = p.0; value = p.1 }) (λ _. refl)

-- the code of arenas, made from a code of their values: an arena is coded as its cells, its free list and its room
abbrev pub arena_code : {T : Type 0} → Coded T → Coded (Arena T)
arena_code {T} code =
    code_by
    (List (Cell T) × (List ℕ × ℕ))
    (coded× (coded_list (cell_code code)) (coded× (coded_list coded_ℕ) coded_ℕ))
    (λ a. (a.cells, (a.free, a.room)))
    (λ p. record { cells = p.0; free = p.1.0; room = p.1.1 })
    (λ _. refl)

-- a cell without a value that was never freed
abbrev pub empty_cell : {T : Type 0} → Cell T
empty_cell = record { generation = 0; value = None }

-- the cell with this number, or an empty cell if there is none
abbrev pub cell_at : {T : Type 0} → List (Cell T) → ℕ → Cell T
cell_at cells n = slice_index_or cells n empty_cell

-- what a handle reads: its cell's value; none if the cell is free, doesn't exist, or has another generation
abbrev pub read : {T : Type 0} → List (Cell T) → Handle → Option T
read cells h = cond ((cell_at cells h.slot).generation == h.generation) (cell_at cells h.slot).value None

-- the handle's cell was freed after the handle was made: the cell exists, and its generation is above the handle's
pub record IsSpent {T : Type 0} (cells : List (Cell T)) (h : Handle) : Type 0 where
  pub within : h.slot < length cells
  pub older : h.generation < (cell_at cells h.slot).generation

-- every handle that is spent in the old cells is also spent in the new ones
abbrev pub KeepsSpent : {T : Type 0} → List (Cell T) → List (Cell T) → Type 0
KeepsSpent old new = (h : Handle) → IsSpent old h → IsSpent new h

-- the number of times that a number occurs in a list
unfoldable pub times : ℕ → List ℕ → ℕ
times n xs = sum_by (λ x. cond (x == n) 1 0) xs

-- the cell numbers of the handles
abbrev pub slots : List Handle → List ℕ
slots handles = map (λ (h : Handle). h.slot) handles

-- the place of the first handle with this slot, or the list's length if no handle has it
abbrev pub place_in : List Handle → ℕ → ℕ
place_in handles slot = position_or_len (λ (h : Handle). h.slot == slot) handles

-- the default handle for places outside a list
abbrev pub no_handle : Handle
no_handle = record { slot = 0; generation = 0 }

-- the handle is at this place in the list
pub record StandsAt (handles : List Handle) (place : ℕ) (handle : Handle) : Type 0 where
  pub within : place < length handles
  pub is : handle ≡ slice_index_or handles place handle

-- the handle is at this place in the list, and at no lesser place
pub record IsFirstAt (handles : List Handle) (handle : Handle) (place : ℕ) : Type 0 where
  pub here : StandsAt handles place handle
  pub before : (k : ℕ) → k < place → ¬ StandsAt handles k handle

-- the handle isn't in the list
abbrev pub IsAbsent : List Handle → Handle → Type 0
IsAbsent handles handle = (place : ℕ) → ¬ StandsAt handles place handle

-- how often cells of the arena were freed, in total
abbrev pub freed : {T : Type 0} → Arena T → ℕ
freed a = sum_by (λ c. c.generation) a.cells

-- 1 if a cell has this number and has no value, otherwise 0
abbrev pub vacancy_at : {T : Type 0} → List (Cell T) → ℕ → ℕ
vacancy_at cells n = cond (nat_lt n (length cells)) (cond (is_none (cell_at cells n).value) 1 0) 0

-- the free list has the number of each cell without a value once, and no others; there are at most `MOST_CELLS` cells
pub record IsWholeArena {T : Type 0} (a : Arena T) : Type 0 where
  pub free_once : (n : ℕ) → times n a.free ≡ vacancy_at a.cells n
  pub free_counted : length a.free ≡ count_by (λ c. is_none c.value) a.cells
  pub cells_bounded : length a.cells ≤ MOST_CELLS

-- a put has a cell to use: a cell is free, or there are fewer than `MOST_CELLS` cells
abbrev pub CanPut : {T : Type 0} → Arena T → Type 0
CanPut a = length a.cells < MOST_CELLS + length a.free

-- the handle that the next put returns, if an arena has these cells and this free list: that of the first free cell,
-- with its generation, or that of a new cell, with generation 0, if none is free
abbrev pub handle_for : {T : Type 0} → List (Cell T) → List ℕ → Handle
handle_for cells [] = record { slot = length cells; generation = 0 }
handle_for cells (n ∷ ns) = record { slot = n; generation = (cell_at cells n).generation }

-- the cells after this value was stored in the first cell of this free list, or in a new cell if the list is empty
abbrev pub cells_with : {T : Type 0} → T → List (Cell T) → List ℕ → List (Cell T)
cells_with v cells [] = cells ++ record { generation = 0; value = Some v } ∷ []
cells_with v cells (n ∷ ns) = slice_set cells n (record { generation = (cell_at cells n).generation; value = Some v })

-- the arena after this value was stored in the first free cell, or in a new cell if none is free; its room is one less
abbrev pub value_put : {T : Type 0} → T → Arena T → Arena T
value_put v a = record { cells = cells_with v a.cells a.free; free = drop 1 a.free; room = a.room - 1 }

-- the arena after this value replaced the one that this handle reads
abbrev pub set_at : {T : Type 0} → T → Handle → Arena T → Arena T
set_at v h a = record a { cells = slice_set a.cells h.slot (record { generation = h.generation; value = Some v }) }

-- the arena after the cell that this handle reads was freed: the cell is then the first of the free list and has the
-- next generation, and the room is one more
abbrev pub freed_at : {T : Type 0} → Handle → Arena T → Arena T
freed_at h a = record {
  cells = slice_set a.cells h.slot (record { generation = h.generation + 1; value = None });
  free = h.slot ∷ a.free;
  room = a.room + 1;
}

-- a call that may change an arena, with its arguments
pub data ArenaCall (T : Type 0) : Type 0 where
  Put : T → ArenaCall T
  Set : Handle → T → ArenaCall T
  Free : Handle → ArenaCall T
  Reserve : ℕ → ArenaCall T

-- the arena after a call that wasn't refused; a call whose handle reads nothing leaves it unchanged. Only its cells
-- and its free list are those after the call: its room has no meaning
abbrev pub after_call : {T : Type 0} → ArenaCall T → Arena T → Arena T
after_call (Put v) a = value_put v a
after_call (Set h v) a = cond (is_some (read a.cells h)) (set_at v h a) a
after_call (Free h) a = cond (is_some (read a.cells h)) (freed_at h a) a
after_call (Reserve n) a = a

-- the arena after these calls, in order, none of which was refused; its room has no meaning, as in `after_call`
abbrev pub after_calls : {T : Type 0} → List (ArenaCall T) → Arena T → Arena T
after_calls [] a = a
after_calls (c ∷ cs) a = after_calls cs (after_call c a)
