-- What a refinement and a merge may change in a store, and what they leave unchanged. A refinement cracks the column
-- at bounds, and adds these to the index. `s` is the store before, `u` the one after bounds were added or removed, and
-- `t` the one after a merge or one of its steps. A handle's key is that of the row that it reads.
use Rattle.std.specs.Prelude.{◌≡◌, ◌⊎◌, ℕ, Bool, Option, Some, None, ◌+◌, ◌-◌, ◌*◌, ◌<◌, ◌≤◌, ◌||◌, not, nat_le, if◌then◌else◌, List, [], ◌∷◌, ◌++◌, length, take, drop, map, filter, count_by, Contains}
use Rattle.std.specs.List.{All, filter_map, between, list_any}
use Rattle.std.specs.List.Sorted.{IsPermutation}
use Rattle.crack_row.specs.Ranges.{Range, is_in, in_range}
use Rattle.crack_row.specs.declared.Row.{Row}
use Rattle.crack_row.specs.declared.command.Policy.{Policy}
use Rattle.crack_row.specs.declared.command.Policy.TheVariants.{Complete, Gradual, Ripple, Auto}
use Rattle.crack_arena.specs.Arena.{Cell, Handle, read}
use Rattle.crack_index.specs.declared.mark.Mark.{Mark}
use Rattle.crack_index.specs.Marks.{SomeMarks, HasBound, bounds_of, position_of, next_mark}
use Rattle.crack_arena.specs.Rows.{key_at}
use Rattle.crack_state.specs.declared.MergeReport.{MergeReport}
use Rattle.crack_state.specs.State.{State, Reads, IsIntact, EachCounter, live_rows, freed_of, greatest}

-- the key of the handle, read in these cells, is outside the range
abbrev pub ReadsOutside : List (Cell Row) → Range → Handle → Type 0
ReadsOutside cells r h = (key_at cells h < r.low) ⊎ (r.high ≤ key_at cells h)

-- the handles whose key is outside the range, in order
abbrev pub outside_of : List (Cell Row) → Range → List Handle → List Handle
outside_of cells r hs = filter (λ h. not (is_in r (key_at cells h))) hs

-- the handles without those among the first `passed` (the number) whose key, read in these cells, is in the range
abbrev pub without_first : List (Cell Row) → Range → ℕ → List Handle → List Handle
without_first cells r passed hs = outside_of cells r (take passed hs) ++ drop passed hs

-- the number of handles whose key is in the range
abbrev pub count_inside : List (Cell Row) → Range → List Handle → ℕ
count_inside cells r hs = count_by (λ h. is_in r (key_at cells h)) hs

-- the first list has some of the second's handles, in the same order
pub data SomeOf : List Handle → List Handle → Type 0 where
  -- both lists are empty
  nothing : SomeOf [] []
  -- the first handle is left out
  left_out : (h : Handle) (some all : List Handle) → SomeOf some all → SomeOf some (h ∷ all)
  -- both lists begin with the same handle
  kept : (h : Handle) (some all : List Handle) → SomeOf some all → SomeOf (h ∷ some) (h ∷ all)

-- the bound is an end of the second range, and is strictly between the ends of the first, the partition's keys
abbrev pub IsInner : Range → Range → ℕ → Type 0
IsInner keys r bound = ((bound ≡ r.low) ⊎ (bound ≡ r.high)) × (keys.low < bound) × (bound < keys.high)

-- the place where the rows at or above a bound begin: 0 if it is at or below the low end of the partition's keys, the
-- column's length if it is at or above their high end, otherwise the bound's place (0 if it isn't in the index)
abbrev pub edge : State → ℕ → ℕ
edge s bound = if nat_le bound s.keys.low then 0 else if nat_le s.keys.high bound then length s.column else position_of bound s.marks

-- the column's handles from the place of the range's low end up to that of its high end (`edge`)
abbrev pub stretch : State → Range → List Handle
stretch s r = between (edge s r.low) (edge s r.high) s.column

-- the bound is in the index, or isn't strictly between the ends of the partition's keys
abbrev pub Stands : State → ℕ → Type 0
Stands s bound = s.keys.low < bound → bound < s.keys.high → HasBound s.marks bound

-- cracked: each end of the range is in the index, or isn't strictly between the ends of the partition's keys
abbrev pub IsCracked : State → Range → Type 0
IsCracked s r = Stands s r.low × Stands s r.high

-- the places where pieces begin and end: 0, the place of each bound, and the column's end
abbrev pub cuts : State → List ℕ
cuts s = 0 ∷ map (λ (m : Mark). m.position) s.marks ++ length s.column ∷ []

-- `u` is `s` after cracks. Between any two places where pieces of `s` begin or end (`cuts`), both columns have the
-- same handles, in any order. The marks of `u` are those of `s`, and one for each missing bound for which `IsNew`
-- holds. Nothing else changes but room
pub record RefinesBy (IsNew : ℕ → Type 0) (s u : State) : Type 0 where
  pub same : u ≡ record s { column = u.column; marks = u.marks; column_room = u.column_room; in_room = u.in_room }
  pub long : length u.column ≡ length s.column
  pub pieces : (from to : ℕ) → Contains (cuts s) from → Contains (cuts s) to → IsPermutation (between from to s.column) (between from to u.column)
  pub kept : (m : Mark) → Contains s.marks m → Contains u.marks m
  pub added : (bound : ℕ) → IsNew bound → HasBound u.marks bound
  pub only : (bound : ℕ) → HasBound u.marks bound → HasBound s.marks bound ⊎ IsNew bound

-- refined: `u` is `s` cracked at both ends of the range: those strictly inside the partition's keys are added
abbrev pub Refines : State → State → Range → Type 0
Refines s u r = RefinesBy (IsInner s.keys r) s u

-- coarsened: from `s` to `u` bounds, any number, are removed; the others keep their order, and nothing else changes
pub record Coarsens (s u : State) : Type 0 where
  pub same : u ≡ record s { marks = u.marks }
  pub some : SomeMarks u.marks s.marks

-- settled: no pending row has its key in the range, the store is cracked at both ends of the range, and the column
-- between their places contains exactly the live rows of the range
pub record IsSettled (t : State) (r : Range) : Type 0 where
  pub cracked : IsCracked t r
  pub pending : All (ReadsOutside t.cells r) t.pending_in
  pub doomed : All (ReadsOutside t.cells r) t.pending_out
  pub order : edge t r.low ≤ edge t r.high
  pub within : edge t r.high ≤ length t.column
  pub reads : All (Reads t.cells) (stretch t r)
  pub holds : IsPermutation (filter (in_range r) (live_rows t)) (filter_map (read t.cells) (stretch t r))

-- what no step of a merge from `s` to `t` changes: the partition's keys, the live rows, the bounds, the number of
-- cells, and how often cells were freed plus how many rows are doomed
pub record Follows (s t : State) : Type 0 where
  pub keys : t.keys ≡ s.keys
  pub live : live_rows t ≡ live_rows s
  pub bounds : bounds_of t.marks ≡ bounds_of s.marks
  pub cells : length t.cells ≡ length s.cells
  pub freed : freed_of t.cells + length t.pending_out ≡ freed_of s.cells + length s.pending_out

-- each handle that reads a row in the second cells reads the same row in the first
abbrev pub StillReads : List (Cell Row) → List (Cell Row) → Type 0
StillReads before after = (h : Handle) → Reads after h → read after h ≡ read before h

-- whether a pending insertion or a pending deletion of the store has its key in the range
abbrev pub is_touched : State → Range → Bool
is_touched s r = list_any (λ h. is_in r (key_at s.cells h)) s.pending_in || list_any (λ h. is_in r (key_at s.cells h)) s.pending_out

-- from `s` to `t` a merge removes all pending deletions with keys in the range `r`. It may remove some with keys
-- outside `r`, of doomed rows that carries met: at most as many as `s` has pending insertions in `r`. The others keep
-- their order
pub record LeavesOutside (s t : State) (r : Range) : Type 0 where
  pub some : SomeOf t.pending_out (outside_of s.cells r s.pending_out)
  pub few : length (outside_of s.cells r s.pending_out) ≤ length t.pending_out + count_inside s.cells r s.pending_in

-- `left` are the pending insertions of `s` after the carries of a ripple merge of the range `r`, before fillers are
-- taken: first those outside `r`, in order, and then the evicted rows. These are some of the column's rows from the
-- place of the high end of `r` on, in order, at most as many as `s` has pending insertions in `r`
pub record Evicts (s : State) (r : Range) (left : List Handle) : Type 0 where
  pub evicted : List Handle
  pub pending_in : left ≡ outside_of s.cells r s.pending_in ++ evicted
  pub some : SomeOf evicted (drop (edge s r.high) s.column)
  pub few : length evicted ≤ count_inside s.cells r s.pending_in

-- the number of a mark's bound, or the number `end` if there is no mark
abbrev pub bound_or : ℕ → Option Mark → ℕ
bound_or end None = end
bound_or end (Some m) = m.bound.0

-- the next bound above a number, or the high end of the partition's keys if there is none
abbrev pub bound_above : State → ℕ → ℕ
bound_above s bound = bound_or s.keys.high (next_mark bound s.marks)

-- the keys from a range's high end up to the next bound above it, or to the high end of the partition's keys if there
-- is none. Pending insertions with these keys are the fillers of a ripple merge of the range: they replace pulled rows
abbrev pub beyond : State → Range → Range
beyond s r = record { low = r.high; high = bound_above s r.high }

-- `left` are the handles `hs` without the first `count` of those whose key is in the range
pub record LosesFirst (cells : List (Cell Row)) (r : Range) (count : ℕ) (hs left : List Handle) : Type 0 where
  pub passed : ℕ
  pub left_are : left ≡ without_first cells r passed hs
  pub count_is : count_inside cells r (take passed hs) ≡ count

-- `hs` are the pending insertions after the carries of a ripple merge of the range `r`; those of `t` are `hs` without
-- the fillers: the first `count` with keys in `beyond s r`, at most as many as `s` has pending deletions in `r`
pub record Fills (s t : State) (r : Range) (hs : List Handle) : Type 0 where
  pub count : ℕ
  pub few : count ≤ count_inside s.cells r s.pending_out
  pub loses : LosesFirst s.cells (beyond s r) count hs t.pending_in

-- which pending rows the second store has after a merge of the range in the first by this policy. Complete: none if
-- one was in the range (`is_touched`), else all. Gradual: those outside the range, except as `LeavesOutside` says.
-- Ripple: the same, except as `Evicts` and `Fills` say too. Never true for auto, which merges by other policies
abbrev pub Leaves : Policy → State → State → Range → Type 0
Leaves Complete s t r = (t.pending_in ≡ (if is_touched s r then [] else s.pending_in)) × (t.pending_out ≡ (if is_touched s r then [] else s.pending_out))
Leaves Gradual s t r = (t.pending_in ≡ outside_of s.cells r s.pending_in) × LeavesOutside s t r
Leaves Ripple s t r = (hs : List Handle) × Evicts s r hs × Fills s t r hs × LeavesOutside s t r
Leaves Auto s t r = ⊥

-- merged: `t` is `s` after a merge of the range `r` by this policy: the range is settled (`IsSettled`), pending rows
-- are left as the policy leaves them (`Leaves`), and commands see the same rows as before
pub record Merges (policy : Policy) (s t : State) (r : Range) : Type 0 where
  pub follows : Follows s t
  pub intact : IsIntact t []
  pub settled : IsSettled t r
  pub leaves : Leaves policy s t r

-- what was counted between two reports: the second minus the first, counter by counter
abbrev pub counted_between : MergeReport → MergeReport → MergeReport
counted_between before after = record {
  insertions = after.insertions - before.insertions;
  deletions = after.deletions - before.deletions;
  evicted = after.evicted - before.evicted;
  moved = after.moved - before.moved;
  pulled = after.pulled - before.pulled;
}

-- no counter of the report has reached its greatest value, so each is exact
abbrev pub IsExact : MergeReport → Type 0
IsExact tally = EachCounter (λ n same. n < greatest) tally tally

-- what merges counted from `s` to `t`, which have `q` pieces, if every counter is exact. The pending insertions are
-- fewer by the rows inserted and more by those evicted; the pending deletions are fewer by the rows deleted. On
-- average at most `q` rows were moved for each insertion, and at most `q` were pulled for each deletion
pub record Counts (s t : State) (q : ℕ) : Type 0 where
  pub insertions : t.tally.insertions + length t.pending_in + s.tally.evicted ≡ s.tally.insertions + length s.pending_in + t.tally.evicted
  pub deletions : t.tally.deletions + length t.pending_out ≡ s.tally.deletions + length s.pending_out
  pub moved : t.tally.moved + s.tally.insertions * q ≤ s.tally.moved + t.tally.insertions * q
  pub pulled : t.tally.pulled + s.tally.deletions * q ≤ s.tally.pulled + t.tally.deletions * q

-- how many rows a merge by this policy from the first store to the second may evict: under ripple at most as many as
-- it inserts, if every counter is exact, otherwise any number; under any other policy none
abbrev pub MayEvict : Policy → State → State → Type 0
MayEvict Ripple s t = IsExact t.tally → t.tally.evicted + s.tally.insertions ≤ s.tally.evicted + t.tally.insertions
MayEvict _ s t = t.tally.evicted ≡ s.tally.evicted

-- what a merge of this policy counts from `s` to `t`: no counter falls, rows are evicted as `MayEvict` says, and
-- `Counts` holds for the number of pieces of `s`, unless a counter of `t` has reached its greatest value
pub record Tallies (policy : Policy) (s t : State) : Type 0 where
  pub rises : EachCounter (λ n m. n ≤ m) s.tally t.tally
  pub counts : IsExact t.tally → Counts s t (length s.marks + 1)
  pub evicts : MayEvict policy s t
