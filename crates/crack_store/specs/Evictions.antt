-- What private clauses alone cite.
-- Carries in bulk under a ceiling, a bound. The incoming rows, `count`, are stored in the column from the ceiling's
-- place on; the rows that they replace are evicted. A first walk over the bounds sifts the incoming rows through the
-- pieces below the ceiling, from the highest down, and raises the other bounds by `count`; a second walk lowers those
-- again. `v` is a walk's visitor before a bound, `w` after it. `c` and `p` are the column and the pending insertions
-- before rows are stored, `c'` and `p'` after it.
use Rattle.std.specs.Prelude.{◌≡◌, ℕ, ◌+◌, ◌-◌, ◌<◌, ◌≤◌, cond, nat_lt, max, min, map, List, ◌∷◌, ◌++◌, length, take, drop, reverse}
use Rattle.std.specs.List.{All}
use Rattle.crack_row.specs.Ranges.{Range}
use Rattle.crack_row.specs.declared.Row.{Row}
use Rattle.crack_arena.specs.Arena.{Cell, Handle, times, slots}
use Rattle.crack_state.specs.Carried.{inside_of}
use Rattle.crack_arena.specs.Memories.{Remembers, memory_at}
use Rattle.crack_column.specs.Column.{Column}
use Rattle.crack_column.specs.Sifts.{AreRead}
use Rattle.crack_index.specs.declared.mark.Mark.{Mark}
use Rattle.crack_index.specs.Raises.{Raises}
use Rattle.crack_pending.specs.Pending.{Pending}
use Rattle.crack_state.specs.Merge.{outside_of}
use Rattle.crack_store.specs.declared.sifting.Sieve.{Sieve}
use Rattle.crack_store.specs.declared.evicting.CeilingSieve.{CeilingSieve}
use Rattle.crack_store.specs.declared.evicting.CeilingStop.{CeilingStop}
use Rattle.crack_store.specs.Sieves.{SieveRises}

-- at the bound of `m`, on the first walk, the bound rises by `rise`. If it is below the ceiling, the incoming rows are
-- sifted there (`SieveRises`); otherwise `rise` is their number, and nothing changes
pub record RisesUnder (v : CeilingSieve) (m : Mark) (rise : ℕ) (w : CeilingSieve) : Type 0 where
  pub over : v.ceiling ≤ m.bound.0 → (rise ≡ v.count) × (w ≡ v)
  pub under : m.bound.0 < v.ceiling → SieveRises v.sieve m rise w.sieve
  pub ceiling_is : w.ceiling ≡ v.ceiling
  pub count_is : w.count ≡ v.count

-- the place that a mark's bound gets on the second walk: its present one if the bound is below the ceiling; otherwise
-- the one before the first walk, or `least`, the place after the incoming rows, if that is greater
abbrev pub stop_of : CeilingStop → Mark → ℕ
stop_of v m = cond (nat_lt m.bound.0 v.ceiling) m.position (max (m.position - v.count) v.least)

-- on the second walk the number is the place that `stop_of` gives for the mark's bound, and the visitor is unchanged
abbrev pub StandsUnder : CeilingStop → Mark → ℕ → CeilingStop → Type 0
StandsUnder v m place w = (place ≡ stop_of v m) × (w ≡ v)

-- the mark, moved to this place if its own is lower, otherwise unchanged
abbrev pub not_before : ℕ → Mark → Mark
not_before place m = record m { position = max m.position place }

-- from `marks` and the sieve `v` to `marks'` and `w`, `count` rows that came in at the place of `edge` were sifted
-- through the pieces below its bound. The lower marks rise as in `SieveRises`; `edge` and the higher ones are moved to
-- the place of `edge` plus `count` if theirs is lower
pub record IsSiftedBelow (edge : Mark) (count : ℕ) (marks : List Mark) (v : Sieve) (marks' : List Mark) (w : Sieve) : Type 0 where
  pub low : List Mark
  pub low' : List Mark
  pub high : List Mark
  pub last : ℕ
  pub before : marks ≡ low ++ edge ∷ high
  pub after : marks' ≡ low' ++ map (not_before (edge.position + count)) (edge ∷ high)
  pub raises : Raises SieveRises count (reverse low) v (reverse low') w last

-- no cell has two handles in the lists `xs` and `ys` together. The cells of `xs` have numbers below `covered`: those
-- whose handles the list of pending insertions may have
pub record AreApart (covered : ℕ) (xs ys : List Handle) : Type 0 where
  pub once : (slot : ℕ) → times slot (slots xs) + times slot (slots ys) ≤ 1
  pub inside : All (λ h. h.slot < covered) xs

-- the handle `h` was stored at a place of the column, and the handle that was there, if any, was appended to the
-- pending insertions. What both lists remember agrees with the rows (`Remembers`)
pub record IsPut (cells : List (Cell Row)) (place : ℕ) (h : Handle) (c : Column) (p : Pending) (c' : Column) (p' : Pending) : Type 0 where
  pub handles_are : c'.handles ≡ take place c.handles ++ h ∷ drop (place + 1) c.handles
  pub remembered_are : c'.remembered ≡ take place c.remembered ++ memory_at cells h ∷ drop (place + 1) c.remembered
  pub pending_are : p'.handles ≡ p.handles ++ take 1 (drop place c.handles)
  pub remembers : Remembers cells c'.handles c'.remembered
  pub keys : Remembers cells p'.handles p'.remembered
  pub column_room : c'.room + (length c'.handles - length c.handles) ≡ c.room
  pub in_room : p'.room + length (take 1 (drop place c.handles)) ≡ p.room
  pub covered : p'.covered ≡ p.covered

-- these handles were stored in the column from the place `from` on, in order, and those that they replaced were
-- appended to the pending insertions. What both lists remember agrees with the rows (`Remembers`)
pub record ArePut (cells : List (Cell Row)) (from : ℕ) (hs : List Handle) (c : Column) (p : Pending) (c' : Column) (p' : Pending) : Type 0 where
  pub handles_are : c'.handles ≡ take from c.handles ++ (hs ++ drop (length hs) (drop from c.handles))
  pub pending_are : p'.handles ≡ p.handles ++ take (length hs) (drop from c.handles)
  pub read : AreRead cells from (from + length hs) c'
  pub remembers : Remembers cells c'.handles c'.remembered
  pub keys : Remembers cells p'.handles p'.remembered
  pub in_room : p.room ≤ p'.room + min (length hs) (length c.handles - from)
  pub covered : p'.covered ≡ p.covered

-- the pending insertions with keys in the range were taken out of their list and stored in the column from the place
-- `from` on; those that they replaced were appended to the list. What both remember agrees with the rows
pub record IsExchanged (cells : List (Cell Row)) (r : Range) (from : ℕ) (c : Column) (p : Pending) (c' : Column) (p' : Pending) : Type 0 where
  pub handles_are : c'.handles ≡ take from c.handles ++ (inside_of cells r p.handles ++ drop (length (inside_of cells r p.handles)) (drop from c.handles))
  pub pending_are : p'.handles ≡ outside_of cells r p.handles ++ take (length (inside_of cells r p.handles)) (drop from c.handles)
  pub read : AreRead cells from (from + length (inside_of cells r p.handles)) c'
  pub remembers : Remembers cells c'.handles c'.remembered
  pub keys : Remembers cells p'.handles p'.remembered
  pub in_room : p.room ≤ p'.room + min (length (inside_of cells r p.handles)) (length c.handles - from)
  pub covered : p'.covered ≡ p.covered
