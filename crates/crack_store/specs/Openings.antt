-- What private clauses alone cite.
-- The pass that opens a column's pieces for arrivals, from the highest down. Its visitor is `v` before a bound and `w`
-- after it.
use Rattle.std.specs.Prelude.{◌≡◌, ℕ, ◌+◌, ◌-◌, ◌*◌, ◌≤◌, List, ◌++◌, length, map, take}
use Rattle.std.specs.List.{All}
use Rattle.std.specs.List.Sorted.{IsNonDecreasingBy, IsPermutation}
use Rattle.crack_row.specs.declared.Row.{Row}
use Rattle.crack_arena.specs.Arena.{Cell, Handle}
use Rattle.crack_arena.specs.Rows.{key_at}
use Rattle.crack_arena.specs.Memories.{Memory, Agrees, Remembers}
use Rattle.crack_column.specs.Column.{Column}
use Rattle.crack_index.specs.declared.mark.Mark.{Mark}
use Rattle.crack_index.specs.Marks.{Rising, bounds_of}
use Rattle.crack_state.specs.State.{IsObeyed, greatest}
use Rattle.crack_store.specs.Passes.{OpensPiece}
use Rattle.crack_store.specs.declared.inside.Inside.{Inside}
use Rattle.crack_store.specs.declared.opening.Arrival.{Arrival}
use Rattle.crack_store.specs.declared.opening.Opening.{Opening}

-- the handle of an arrival
abbrev pub arrival_handle : Arrival → Handle
arrival_handle a = a.handle

-- the key of an arrival
abbrev pub arrival_key : Arrival → ℕ
arrival_key a = a.key

-- what is remembered of an arrival
abbrev pub arrival_memory : Arrival → Memory
arrival_memory a = record { key = a.key; payload = a.payload }

-- the keys of the arrivals don't fall
abbrev pub AreSorted : List Arrival → Type 0
AreSorted arrivals = IsNonDecreasingBy arrival_key arrivals

-- the arrival's key and payload agree with its row in these cells
abbrev pub IsKnown : List (Cell Row) → Arrival → Type 0
IsKnown cells a = Agrees cells a.handle (arrival_memory a)

-- arrivals were put into the column: it has as many rows and the same room, and in any cells with which the arrivals
-- agree it remembers its rows as well as before
pub record KeepsPut (arrivals : List Arrival) (old new : Column) : Type 0 where
  pub long : length new.handles ≡ length old.handles
  pub room : new.room ≡ old.room
  pub remembered : (cells : List (Cell Row)) → All (IsKnown cells) arrivals → Remembers cells old.handles old.remembered → Remembers cells new.handles new.remembered

-- the hole is in the column, the arrivals are sorted, and the count of moved rows is one of a counter
pub record IsOpeningReady (v : Opening) : Type 0 where
  pub order : v.end ≤ v.to
  pub within : v.to ≤ length v.column.handles
  pub few : v.to ≤ v.end + length v.arrivals.now
  pub sorted : AreSorted v.arrivals.now
  pub small : v.moved ≤ greatest

-- the handles of the column
abbrev pub opening_rows : Opening → List Handle
opening_rows v = v.column.handles

-- where the hole begins
abbrev pub opening_end : Opening → ℕ
opening_end v = v.end

-- the arrivals that are left
abbrev pub opening_left : Opening → List Arrival
opening_left v = take (v.to - v.end) v.arrivals.now

-- the number of rows moved
abbrev pub opening_moved : Opening → ℕ
opening_moved v = v.moved

-- the column has as many rows and the same room and remembers its rows, the arrivals are the same, and the count of
-- moved rows doesn't fall
pub record KeepsOpening (v w : Opening) : Type 0 where
  pub rows : KeepsPut v.arrivals.now v.column w.column
  pub arrivals : w.arrivals ≡ v.arrivals
  pub moved : v.moved ≤ w.moved

-- the piece that begins at the first number and at the bound `low` is opened, and `rise` arrivals are left
-- (`OpensPiece`)
abbrev pub Opens : Opening → ℕ → ℕ → ℕ → Opening → Type 0
Opens = OpensPiece opening_rows opening_end opening_moved opening_left arrival_handle arrival_key KeepsOpening

-- the piece that begins at the mark is opened, and the bound rises by `rise`. Nothing is required if the mark's place
-- is after the end of that piece
abbrev pub OpensAt : Opening → Mark → ℕ → Opening → Type 0
OpensAt v m rise w = m.position ≤ v.end → Opens v m.position m.bound.0 rise w

-- the column's last rows are a hole, one for each arrival, and the marks divide the rows before it. The arrivals are
-- sorted, by the keys of their rows, and the count of moved rows is one of a counter
pub record IsOpenable (p : Inside) (arrivals : List Arrival) : Type 0 where
  pub enough : length arrivals ≤ length p.column.handles
  pub sorted : AreSorted arrivals
  pub keyed : All (λ (a : Arrival). key_at p.arena.cells a.handle ≡ a.key) arrivals
  pub obeyed : IsObeyed p.index.marks (map (key_at p.arena.cells) (take (length p.column.handles - length arrivals) p.column.handles))
  pub rising : Rising p.index.marks
  pub small : p.tally.moved ≤ greatest

-- from `p` to `q` all pieces were opened for the arrivals, which took the places of the hole: the column has the rows
-- before the hole and the arrivals, and the marks divide them. The bounds are the same; only column, index and the
-- count of moved rows change. That count grows by at most the number of arrivals for each bound
pub record OpensPieces (p q : Inside) (arrivals : List Arrival) : Type 0 where
  pub same : q ≡ record p { column = q.column; index = q.index; tally = record p.tally { moved = q.tally.moved } }
  pub permuted : IsPermutation (take (length p.column.handles - length arrivals) p.column.handles ++ map arrival_handle arrivals) q.column.handles
  pub obeyed : IsObeyed q.index.marks (map (key_at p.arena.cells) q.column.handles)
  pub rising : Rising q.index.marks
  pub bounds : bounds_of q.index.marks ≡ bounds_of p.index.marks
  pub keeps : KeepsPut arrivals p.column q.column
  pub rises : p.tally.moved ≤ q.tally.moved
  pub few : q.tally.moved ≤ p.tally.moved + length p.index.marks * length arrivals
  pub small : q.tally.moved ≤ greatest
