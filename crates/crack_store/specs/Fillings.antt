-- What private clauses alone cite.
-- What a walk that pulls doomed rows does at the bounds up to `edge`; fillers then take the places before that of
-- `edge`. A filler is a pending insertion with its key in the range `fillers`, which begins at `edge`.
use Rattle.std.specs.Prelude.{◌≡◌, ℕ, ◌+◌, ◌-◌, ◌<◌, ◌≤◌, Contains, map, List, [], ◌∷◌, ◌++◌, length, take, drop, reverse}
use Rattle.std.specs.List.{All}
use Rattle.crack_row.specs.Ranges.{Range}
use Rattle.crack_row.specs.declared.Row.{Row}
use Rattle.crack_arena.specs.Arena.{Cell}
use Rattle.crack_arena.specs.Rows.{key_at}
use Rattle.crack_state.specs.Pieces.{column_of, marks_of}
use Rattle.crack_state.specs.Carried.{inside_of}
use Rattle.crack_state.specs.Pulled.{pulled, itself}
use Rattle.crack_state.specs.Filled.{lacking, pieces_under, filled_from}
use Rattle.crack_column.specs.declared.draining.Doomed.{Doomed}
use Rattle.crack_arena.specs.Memories.{Remembers}
use Rattle.crack_column.specs.Column.{Column}
use Rattle.crack_column.specs.Drains.{doomed_below, doomed_handle}
use Rattle.crack_index.specs.declared.mark.Mark.{Mark}
use Rattle.crack_pending.specs.Pending.{Pending}
use Rattle.crack_state.specs.State.{State, IsIntact}
use Rattle.crack_store.specs.declared.filling.DrainBelow.{DrainBelow}
use Rattle.crack_store.specs.Drainings.{doomed_of, Empties, AreBuried}

-- the keys of the range begin at the bound of `m`, one of the marks, and none of the other bounds is among them
pub record IsNextTo (fillers : Range) (marks : List Mark) (m : Mark) : Type 0 where
  pub there : Contains marks m
  pub same : m.bound.0 ≡ fillers.low
  pub beyond : All (λ n. fillers.low < n.bound.0 → fillers.high ≤ n.bound.0) marks

-- from `v` to `w` the doomed rows are pulled out of the piece that the bound of `m` ends, and `end` is the bound's new
-- place (`Empties`); but a bound above `edge` keeps its place, `end`, and nothing changes
pub record EmptiesBelow (v : DrainBelow) (m : Mark) (end : ℕ) (w : DrainBelow) : Type 0 where
  pub under : m.bound.0 ≤ v.edge → Empties v.drain m end w.drain
  pub over : v.edge < m.bound.0 → (end ≡ m.position) × (w ≡ v)
  pub edge_is : w.edge ≡ v.edge

-- from the pending insertions `p` to `p'` the first `count` fillers were taken out; from the column `c` to `c'` they
-- replaced the handles right before `place`, in reverse order. What both remember agrees with the rows
pub record IsStocked (cells : List (Cell Row)) (fillers : Range) (place count : ℕ) (c : Column) (p : Pending) (c' : Column) (p' : Pending) : Type 0 where
  pub handles_are : c'.handles ≡ take (place - count) c.handles ++ (reverse (take count (inside_of cells fillers p.handles)) ++ drop place c.handles)
  pub pending_are : p'.handles ≡ lacking cells fillers count p.handles
  pub remembers : Remembers cells c'.handles c'.remembered
  pub keys : Remembers cells p'.handles p'.remembered
  pub column_room : c'.room ≡ c.room
  pub in_room : p.room ≤ p'.room
  pub covered : p'.covered ≡ p.covered

-- the store after the pulls of the doomed rows `ds`, each with one of the first fillers, in order of arrival; `low`
-- are the marks below the mark `edge`, and `high` those above it
abbrev pub filled_at : List Doomed → Range → List Mark → Mark → List Mark → State → State
filled_at ds fillers low edge high s =
    filled_from low edge high (map doomed_handle ds) (take (length ds) (inside_of s.cells fillers s.pending_in)) (lacking s.cells fillers (length ds) s.pending_in) s

-- the doomed rows `ds` can be pulled, one after the other, each with a filler. The key given with each handle is that
-- of its row, and below `edge`; there are fillers for all; and after all pulls the store is intact, and the place of
-- each bound below `edge` is lower by the number of doomed rows below that bound
pub record CanBeFilled (ds : List Doomed) (fillers : Range) (edge : Mark) (s : State) : Type 0 where
  pub low : List Mark
  pub high : List Mark
  pub marks_are : s.marks ≡ low ++ edge ∷ high
  pub are : ds ≡ map (doomed_of s.cells) (map doomed_handle ds)
  pub under : All (λ h. key_at s.cells h < edge.bound.0) (map doomed_handle ds)
  pub enough : length ds ≤ length (inside_of s.cells fillers s.pending_in)
  pub intact : IsIntact (filled_at ds fillers low edge high s) []
  pub marks : marks_of 0 (pulled (key_at s.cells) itself 0 (map doomed_handle ds) (pieces_under s low edge)) ≡ map (λ (m : Mark). record m { position = m.position - doomed_below m.bound.0 ds }) low
  pub few : All (λ m. doomed_below m.bound.0 ds ≤ m.position) low
  pub long : length (column_of (pulled (key_at s.cells) itself 0 (map doomed_handle ds) (pieces_under s low edge))) + length ds ≡ edge.position
  pub buried : AreBuried (map doomed_handle ds) s.cells s.pending_out

-- `t` is the store `s` after the doomed rows `ds` were pulled, each with one of the first fillers, in order of
-- arrival; the fillers take the places right before that of `edge`
pub record FillsAs (ds : List Doomed) (fillers : Range) (edge : Mark) (s t : State) : Type 0 where
  pub low : List Mark
  pub high : List Mark
  pub marks_are : s.marks ≡ low ++ edge ∷ high
  pub after : t ≡ filled_at ds fillers low edge high s
