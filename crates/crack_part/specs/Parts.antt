-- What contracts see of a partition, and the invariant of each. A step takes the store from `s` to `t`. `r` is the
-- range that is read, `keys` are the partition's keys, and the optional range after them is the command's.
use Rattle.std.specs.Prelude.{◌≡◌, ◌⊎◌, ℕ, Bool, ◌+◌, ◌-◌, ◌*◌, ◌<◌, ◌≤◌, nat_le, true, false, [], length, Option, Some, None}
use Rattle.std.specs.List.Sorted.{IsPermutation}
use Rattle.crack_row.specs.Commands.{change_of, range_of}
use Rattle.crack_row.specs.Ranges.{Range, clipped}
use Rattle.crack_row.specs.Rows.{row_with}
use Rattle.crack_row.specs.declared.command.Change.{Change}
use Rattle.crack_row.specs.declared.command.Change.TheVariants.{Place, Remove, Rewrite}
use Rattle.crack_row.specs.declared.command.Command.{Command}
use Rattle.crack_row.specs.declared.command.Policy.{Policy}
use Rattle.crack_row.specs.declared.command.Policy.TheVariants.{Complete, Ripple, Auto}
use Rattle.crack_row.specs.Limits.{AreLimits}
use Rattle.crack_row.specs.declared.limit.Limits.{Limits}
use Rattle.crack_plain.specs.Plain.{PlainState, PlainView, IsNumbered, by_serial, accepted_of}
use Rattle.crack_plain.specs.Watching.{capped_sum}
use Rattle.crack_plain.specs.declared.statistics.Statistics.{Statistics}
use Rattle.crack_state.specs.State.{State, IsIntact, live_rows, freed_of}
use Rattle.crack_state.specs.Steps.{row_inserted, SameButRoom}
use Rattle.crack_state.specs.Points.{pending_by, Removes, Rewrites}
use Rattle.crack_state.specs.Merge.{Coarsens, Refines, Merges, Tallies}
use Rattle.crack_store.specs.Further.{CracksFurther}
use Rattle.crack_merge.specs.Merges.{Stops}
use Rattle.crack_merge.specs.Near.{MergesNear}
use Rattle.crack_part.specs.Cells.{is_cleared_first}

-- what contracts see of a partition: its keys, its limits, the serial of the next row, how many commands it
-- accepted up to its last checkpoint and since, and its store
pub record Part : Type 0 where
  pub keys : Range
  pub limits : Limits
  pub next : ℕ
  pub checkpointed : ℕ
  pub since : ℕ
  pub store : State

-- the plain rows of a partition: the live rows of its store, by rising serial, and the serial of the next one
abbrev pub state_of : Part → PlainState
state_of part = record { rows = by_serial (live_rows part.store); next = part.next }

-- the plain table of a partition: its plain rows, and its two counts of commands
abbrev pub table_of : Part → PlainView
table_of part = record { state = state_of part; checkpointed = part.checkpointed; since = part.since }

-- the statistics of a partition; its column has one more piece than bounds
abbrev pub statistics_of : Part → Statistics
statistics_of part = record {
  rows = length (state_of part).rows;
  pending_insertions = length part.store.pending_in;
  pending_deletions = length part.store.pending_out;
  pieces = capped_sum (length part.store.marks) 1;
  cells = length part.store.cells;
  free_cells = length part.store.free;
  commands_accepted = accepted_of (table_of part);
  commands_since_checkpoint = part.since;
}

-- the live rows of a store are the plain rows, in some order, and `next` is the next serial of the plain rows
pub record IsFaithful (store : State) (next : ℕ) (plain : PlainState) : Type 0 where
  pub rows : IsPermutation (live_rows store) plain.rows
  pub serial : next ≡ plain.next

-- The invariant of a partition. Its limits are valid (`AreLimits`). Its store is intact and has the same keys; the
-- serials of its live rows differ and are below the next one. There are at most as many cells as their limit, and as
-- commands accepted; at most as many frees of cells and pending deletions together as commands after the first; and at
-- most as many insertions as commands. The commands since the last checkpoint are at most the history's limit, and
-- those since the opening at most the life.
pub record IsSound (part : Part) : Type 0 where
  pub limited : AreLimits part.limits
  pub numbered : IsNumbered (state_of part)
  pub ends : part.store.keys ≡ part.keys
  pub intact : IsIntact part.store []
  pub cells : length part.store.cells ≤ part.limits.cells
  pub few_cells : length part.store.cells ≤ accepted_of (table_of part)
  pub few_freed : freed_of part.store.cells + length part.store.pending_out ≤ accepted_of (table_of part) - 1
  pub few_placed : part.next ≤ accepted_of (table_of part)
  pub few_since : part.since ≤ part.limits.history
  pub lived : accepted_of (table_of part) ≤ part.limits.life

-- a partition after a checkpoint: the count of commands since the last one is added to the count before it and set
-- to 0, and nothing else changes
abbrev pub checkpointed_part : Part → Part
checkpointed_part part = record part { checkpointed = accepted_of (table_of part); since = 0 }

-- whether all pending rows are merged before a range is read: under auto, if 64 times the pending insertions are at
-- least the column's rows times its pieces, as always if the column is empty; never under the other policies
abbrev pub is_merged_first : Policy → State → Bool
is_merged_first Auto s = nat_le (length s.column * (length s.marks + 1)) (64 * length s.pending_in)
is_merged_first policy s = false

-- the policy by which pending rows are merged for a range that is read: ripple under auto, else the same policy
abbrev pub read_by : Policy → Policy
read_by Auto = Ripple
read_by policy = policy

-- where a merge from `s` to `t` moves rows: under ripple, near the range (`MergesNear`); else nothing is said
abbrev pub LeavesNear : Policy → State → State → Range → Type 0
LeavesNear Ripple s t r = MergesNear s t r
LeavesNear _ s t r = Unit {0}

-- how a store is cracked for a range: at the range's ends; under auto, first perhaps at a further bound near each
-- end, as `CracksFurther` says
abbrev pub CracksBy : Policy → State → State → Range → Type 0
CracksBy Auto s t r = CracksFurther s t r
CracksBy _ s t r = Refines s t r

-- a store is cracked for a range by this policy, which leaves it intact, and then the step `Does` leads to `t`
pub record CracksAnd (policy : Policy) (Does : State → State → Type 0) (s t : State) (r : Range) : Type 0 where
  pub cracked : State
  pub cracks : CracksBy policy s cracked r
  pub intact : IsIntact cracked []
  pub does : Does cracked t

-- a store is cracked for a range by this policy, and then merged for it by the policy of `read_by`
abbrev pub CracksAndMerges : Policy → State → State → Range → Type 0
CracksAndMerges policy s t r = CracksAnd policy (λ (cracked merged : State). Merges (read_by policy) cracked merged r × LeavesNear (read_by policy) cracked merged r × Tallies (read_by policy) cracked merged) s t r

-- if `due` is true, all pending rows are merged first, by a read of all keys under complete; otherwise nothing is done
-- first. Then the step `Does` leads to `t`
pub record ReadiesAnd (due : Bool) (Does : State → State → Type 0) (s t : State) : Type 0 where
  pub ready : State
  pub readies : ((due ≡ false) × (ready ≡ s)) ⊎ ((due ≡ true) × CracksAndMerges Complete s ready s.keys)
  pub does : Does ready t

-- under auto bounds may be forgotten, and nothing else changes; under the other policies nothing changes
abbrev pub MayCoarsen : Policy → State → State → Type 0
MayCoarsen Auto s t = Coarsens s t
MayCoarsen policy s t = t ≡ s

-- bounds may be forgotten, as `MayCoarsen` says, and then the step `Does` leads to `t`
pub record CoarsensAnd (policy : Policy) (Does : State → State → Type 0) (s t : State) : Type 0 where
  pub coarse : State
  pub coarsens : MayCoarsen policy s coarse
  pub does : Does coarse t

-- a store is settled for a range: all pending rows are merged if `is_merged_first` says so, then bounds may be
-- forgotten, and then the store is cracked and merged for the range
abbrev pub Settles : Policy → State → State → Range → Type 0
Settles policy s t r = ReadiesAnd (is_merged_first policy s) (CoarsensAnd policy (λ (coarse settled : State). CracksAndMerges policy coarse settled r)) s t

-- what a read of a range does to a store: nothing if the range is empty, otherwise what `Settles` says
pub record ReadsRange (policy : Policy) (s t : State) (r : Range) : Type 0 where
  pub empty : r.high ≤ r.low → t ≡ s
  pub settled : r.low < r.high → Settles policy s t r

-- what the cracking and merging of a store for a range did if it found no memory: nothing but the room for handles
-- changed; or the store was cracked, and the merge stopped on the way
abbrev pub StopsAt : Policy → State → State → Range → Type 0
StopsAt policy s t r = SameButRoom s t ⊎ ((r.low < r.high) × CracksAnd policy (λ (cracked stopped : State). Stops (read_by policy) cracked stopped r) s t r)

-- no memory was found: either in the merge of all pending rows that comes first if `due` is true, or later, by `Stops`
abbrev pub ReadiesOr : Bool → (State → State → Type 0) → State → State → Type 0
ReadiesOr due Stops s t = ((due ≡ true) × StopsAt Complete s t s.keys) ⊎ ReadiesAnd due Stops s t

-- what a read of a range that found no memory did to a store: it stopped in the merge of all pending rows that
-- `is_merged_first` asks for, or later
abbrev pub StopsRead : Policy → State → State → Range → Type 0
StopsRead policy s t r = ReadiesOr (is_merged_first policy s) (CoarsensAnd policy (λ (coarse stopped : State). StopsAt policy coarse stopped r)) s t

-- what is done to a store before the reply to a command: if the command has a range, the part of it that is within
-- `keys` is read; otherwise nothing changes
abbrev pub Prepares : Policy → Range → Option Range → State → State → Type 0
Prepares policy keys None s t = t ≡ s
Prepares policy keys (Some range) s t = ReadsRange policy s t (clipped range keys)

-- what a command that found no memory did to a store, without the freeing of cells that may come first: if it has a
-- range, the part of it that is within `keys` may have been read in part; otherwise only the room for handles changed
abbrev pub SparesCleared : Policy → Range → Option Range → State → State → Type 0
SparesCleared policy keys None s t = SameButRoom s t
SparesCleared policy keys (Some range) s t = StopsRead policy s t (clipped range keys)

-- what is done to a store after the reply to a command: its change, if any; an inserted row gets the serial `next`
abbrev pub Performs : ℕ → Option Change → State → State → Type 0
Performs next None s t = t ≡ s
Performs next (Some (Place key payload)) s t = SameButRoom (row_inserted (row_with (record { 0 = next }) key payload) s) t
Performs next (Some (Remove serial)) s t = Removes (pending_by s serial.0) serial.0 s t
Performs next (Some (Rewrite serial key payload)) s t = Rewrites (pending_by s serial.0) (row_with serial key payload) s t

-- what an answered command does to a store, after the freeing of cells that may come first: what `Prepares` says, and
-- then its change, if any; an inserted row gets the serial `next`
pub record ServesCleared (policy : Policy) (keys : Range) (next : ℕ) (command : Command) (s t : State) : Type 0 where
  pub ready : State
  pub prepared : Prepares policy keys (range_of command) s ready
  pub performed : Performs next (change_of command) ready t

-- what an answered command does to the store of the partition `p`, which becomes `t`: if the command lacks a cell and
-- upkeep may free some, all pending rows are merged first; then what `ServesCleared` says is done
abbrev pub Serves : Policy → Part → Command → State → Type 0
Serves policy p command t = ReadiesAnd (is_cleared_first p.limits p.store (change_of command)) (ServesCleared policy p.keys p.next command) p.store t

-- what a command that found no memory did to the store of the partition `p`, which became `t`: it stopped while cells
-- were freed first, or afterwards, as `SparesCleared` says
abbrev pub Spares : Policy → Part → Command → State → Type 0
Spares policy p command t = ReadiesOr (is_cleared_first p.limits p.store (change_of command)) (SparesCleared policy p.keys (range_of command)) p.store t
