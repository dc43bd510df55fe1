-- What private clauses alone cite.
-- Ranges within a partition's keys, what a change needs, and the freeing of cells. A step takes the store from `s` to
-- `t`, and the partition from `p` to `q`.
use Rattle.std.specs.Prelude.{◌≡◌, ◌⊎◌, ℕ, ◌<◌, ◌≤◌, Bool, true, false, Option, Some, None}
use Rattle.crack_row.specs.Commands.{change_of}
use Rattle.crack_row.specs.Ranges.{Range, IsIn, clipped}
use Rattle.crack_row.specs.Rows.{row_with}
use Rattle.crack_row.specs.declared.Key.{Key}
use Rattle.crack_row.specs.declared.Payload.{Payload}
use Rattle.crack_row.specs.declared.Row.{Row}
use Rattle.crack_row.specs.declared.command.Change.{Change}
use Rattle.crack_row.specs.declared.command.Change.TheVariants.{Place, Remove, Rewrite}
use Rattle.crack_row.specs.declared.command.Command.{Command}
use Rattle.crack_row.specs.declared.command.Policy.TheVariants.{Complete}
use Rattle.crack_row.specs.declared.refusal.Refusal.{Refusal}
use Rattle.crack_row.specs.declared.refusal.Refusal.TheVariants.{OutOfMemory, NoCell}
use Rattle.crack_state.specs.State.{State}
use Rattle.crack_state.specs.Steps.{IsInsertable}
use Rattle.crack_state.specs.Points.{MayFree, IsRenewable}
use Rattle.crack_part.specs.Parts.{Part, table_of, StopsAt, CracksAndMerges}
use Rattle.crack_part.specs.Cells.{lacks_cell, is_without_cell, is_cleared_first}
use Rattle.crack_part.specs.Refusals.{stopped_by, first_cause}

-- the row that an insert adds: with this serial, key and payload
abbrev pub inserted_row : ℕ → Key → Payload → Row
inserted_row serial key payload = row_with (record { 0 = serial }) key payload

-- if `due` is true, all pending rows are merged, by a read of all keys under complete; otherwise nothing changes
abbrev pub Readies : Bool → State → State → Type 0
Readies due s t = ((due ≡ false) × (t ≡ s)) ⊎ ((due ≡ true) × CracksAndMerges Complete s t s.keys)

-- `common` is the intersection of the range with the keys, or `None` if it is empty
abbrev pub IsCommon : Range → Range → Option Range → Type 0
IsCommon range keys None = (clipped range keys).high ≤ (clipped range keys).low
IsCommon range keys (Some common) = (common ≡ clipped range keys) × (common.low < common.high)

-- `common` is the intersection of a command's range with the keys; `None` if it is empty or the command has no range
abbrev pub AreCommon : Option Range → Range → Option Range → Type 0
AreCommon None keys common = common ≡ None
AreCommon (Some range) keys common = IsCommon range keys common

-- What a store must allow before a change. An insertion: that the new row, with the serial `next`, is inserted
-- (`IsInsertable`). A deletion: that one more cell is freed (`MayFree`). An update: that its key is one of the
-- store's, and that a row of the column is renewed (`IsRenewable`). No change: nothing.
abbrev pub MayPerform : ℕ → Option Change → State → Type 0
MayPerform next None s = Unit {0}
MayPerform next (Some (Place key payload)) s = IsInsertable (inserted_row next key payload) s
MayPerform next (Some (Remove serial)) s = MayFree s
MayPerform next (Some (Rewrite serial key payload)) s = IsIn s.keys key.0 × IsRenewable s

-- the first of `KeyOutside`, `HistoryFull` and `LifeOver` with which a partition refuses a command; `None` if none of
-- these applies, even if the command lacks a cell
abbrev pub early_refusal_of : Part → Command → Option Refusal
early_refusal_of part command = first_cause part.keys (stopped_by part.limits (table_of part)) false command

-- Cells were freed for a command, which lacks none in `q`. If it lacks one in `p`, upkeep may free cells, and the
-- store of `q` is that of `p` after all pending rows were merged; otherwise the stores are the same.
abbrev pub Frees : Part → Command → Part → Type 0
Frees p command q = (lacks_cell q.limits.cells q.store (change_of command) ≡ false) × (is_without_cell p.limits p.store (change_of command) ≡ false) × Readies (is_cleared_first p.limits p.store (change_of command)) p.store q.store

-- The freeing of cells for a command was refused with `e`. Either it is `NoCell`, because the command lacks a cell and
-- upkeep may free none, and `q` is `p`; or it is `OutOfMemory`, and all pending rows may have been merged in part.
abbrev pub FreesNone : Part → Command → Refusal → Part → Type 0
FreesNone p command e q = ((e ≡ NoCell) × (is_without_cell p.limits p.store (change_of command) ≡ true) × (q ≡ p)) ⊎ ((e ≡ OutOfMemory) × (is_cleared_first p.limits p.store (change_of command) ≡ true) × StopsAt Complete p.store q.store p.store.keys)
