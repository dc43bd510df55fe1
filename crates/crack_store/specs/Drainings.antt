-- What private clauses alone cite.
-- What a walk over the bounds from the lowest up, which pulls doomed rows out of a column's pieces, does at a bound.
-- Its visitor, `v` before and `w` after that, is a `Drain`: the next piece begins at the bound `low` and the place
-- `from`, and the `gap` places before it are those of rows pulled out of lower pieces.
use Rattle.std.specs.Prelude.{◌≡◌, ⊤, ℕ, ◌+◌, ◌-◌, ◌<◌, ◌≤◌, Some, None, min, map, take, List, [], ◌∷◌, length, slice_set}
use Rattle.std.specs.List.{All, remove}
use Rattle.crack_arena.specs.declared.TheConstants.{MOST_FREED}
use Rattle.crack_arena.specs.Arena.{Cell, Handle, times, slots, place_in}
use Rattle.crack_arena.specs.Rows.{key_at}
use Rattle.crack_row.specs.declared.Row.{Row}
use Rattle.crack_column.specs.declared.draining.Doomed.{Doomed}
use Rattle.crack_arena.specs.Memories.{Remembers}
use Rattle.crack_column.specs.Column.{Column, StillRemembers}
use Rattle.crack_column.specs.Drains.{doomed_below, doomed_handle, Drains}
use Rattle.crack_index.specs.declared.mark.Mark.{Mark}
use Rattle.crack_state.specs.State.{State, Reads, IsIntact, freed_of, greatest}
use Rattle.crack_state.specs.Pulled.{pulled_from}
use Rattle.crack_store.specs.declared.draining.Drain.{Drain}
use Rattle.crack_store.specs.declared.inside.Inside.{Inside}

-- a doomed row as pulls take it: this handle, with its row's key, read in these cells
abbrev pub doomed_of : List (Cell Row) → Handle → Doomed
doomed_of cells h = record { key = key_at cells h; handle = h }

-- the place `from` is in the column or at its end, and at least `gap` places are before it
pub record IsDrainReady (v : Drain) : Type 0 where
  pub gap : v.gap ≤ v.from
  pub within : v.from ≤ length v.column.handles

-- from `v` to `w` the doomed rows were pulled out of the next piece, whose high bound is that of `m`. What is left of
-- the piece begins `gap` places earlier and ends at `end`; the column changed as in `Drains` if `gap` was the number
-- of doomed rows below the piece. `w` is at the piece after it
pub record DrainPasses (v : Drain) (m : Mark) (end : ℕ) (w : Drain) : Type 0 where
  pub made : ℕ
  pub drains : doomed_below v.low v.doomed.items ≡ v.gap → Drains v.low (Some m.bound) v.doomed.items (v.from - v.gap) v.from m.position v.column w.column end made
  pub from_end : v.from - v.gap ≤ end
  pub to_end : end ≤ m.position
  pub doomed_are : w.doomed ≡ v.doomed
  pub low_is : w.low ≡ m.bound.0
  pub from_is : w.from ≡ m.position
  pub gap_is : w.gap ≡ m.position - end
  pub pulled_is : w.pulled ≡ min (v.pulled + made) greatest
  pub long : length w.column.handles ≡ length v.column.handles
  pub room : w.column.room ≡ v.column.room
  pub remembered : StillRemembers v.column w.column

-- at the mark the first drain becomes the second, as `DrainPasses` says; the number is the bound's new place. Nothing
-- is required if the mark's place is before the next piece or past the column's end
abbrev pub Empties : Drain → Mark → ℕ → Drain → Type 0
Empties v m end w = v.from ≤ m.position → m.position ≤ length v.column.handles → DrainPasses v m end w

-- `new` is the column `old` after its last rows were removed, down to `len` rows
pub record IsShortened (len : ℕ) (old new : Column) : Type 0 where
  pub handles_are : new.handles ≡ take len old.handles
  pub remembered_are : new.remembered ≡ take len old.remembered
  pub room_is : new.room + len ≡ old.room + length old.handles

-- from `v` to `w` the doomed rows were pulled out of the last piece, and all pulled rows were removed from the column
pub record IsDrainedTo (v w : Drain) : Type 0 where
  pub made : ℕ
  pub end : ℕ
  pub drained : Column
  pub drains : doomed_below v.low v.doomed.items ≡ v.gap → Drains v.low None v.doomed.items (v.from - v.gap) v.from (length v.column.handles) v.column drained end made
  pub within : end ≤ length v.column.handles
  pub long : length drained.handles ≡ length v.column.handles
  pub room : drained.room ≡ v.column.room
  pub remembered : StillRemembers v.column drained
  pub short : IsShortened end drained w.column
  pub doomed_are : w.doomed ≡ v.doomed
  pub pulled_is : w.pulled ≡ min (v.pulled + made) greatest

-- the handles in the first list can be buried in order; the second list has the pending deletions. Of each this holds
-- once those before it are buried: it reads a row in the cells, cells may still be freed, and it is a pending deletion
abbrev pub AreBuried : List Handle → List (Cell Row) → List Handle → Type 0
AreBuried [] cells out = ⊤
AreBuried (h ∷ hs) cells out =
    Reads cells h × (freed_of cells < MOST_FREED) × (0 < times h.slot (slots out)) × AreBuried hs (slice_set cells h.slot (record { generation = h.generation + 1; value = None })) (remove out (place_in out h.slot))

-- from `p` to `q` only the arena, the pending deletions and the tally change. In any cells in which the old pending
-- deletions remember their rows correctly (`Remembers`), the new ones do too
pub record KeepsKeys (p q : Inside) : Type 0 where
  pub same : q ≡ record p { arena = q.arena; pending_out = q.pending_out; tally = q.tally }
  pub keys : (cells : List (Cell Row)) → Remembers cells p.pending_out.handles p.pending_out.remembered → Remembers cells q.pending_out.handles q.pending_out.remembered

-- the doomed rows `ds` can be pulled out of the store, one after the other: the key given with each handle is that of
-- its row, each is a pending deletion when its turn comes, and after all pulls the store is intact, the column is
-- shorter by their number, and each bound's place is lower by the number of them whose keys are below the bound
pub record CanBePulled (ds : List Doomed) (s : State) : Type 0 where
  pub are : ds ≡ map (doomed_of s.cells) (map doomed_handle ds)
  pub intact : IsIntact (pulled_from (map doomed_handle ds) s) []
  pub marks : (pulled_from (map doomed_handle ds) s).marks ≡ map (λ (m : Mark). record m { position = m.position - doomed_below m.bound.0 ds }) s.marks
  pub few : All (λ m. doomed_below m.bound.0 ds ≤ m.position) s.marks
  pub long : length (pulled_from (map doomed_handle ds) s).column + length ds ≡ length s.column
  pub buried : AreBuried (map doomed_handle ds) s.cells s.pending_out
