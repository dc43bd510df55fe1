-- The meaning of calls from C. A call relates `old` and `new`, the handle before and after it; `status`, the number
-- that it returns; and `unwritten`, that it wrote nothing. In types: `TableHandle → TableHandle → ℕ → Type 0`.
use Rattle.std.specs.Prelude.{◌≡◌, ◌⊎◌, ◌<◌, ◌≤◌, ℕ, ◌==◌, true, false, All, List, map, length, Option, None, Some, IfOk, OnOk, OnErr, MatchOption, Result, MatchResult, slice_get, slice_index_or, if◌then◌else◌}
use Rattle.std.specs.List.{AllByRecursion}
use Rattle.std.specs.Option.{option_map_or}
use Rattle.crack_row.specs.Limits.{history_limit}
use Rattle.crack_row.specs.Refusals.{code_of}
use Rattle.crack_row.specs.declared.TheConstants.{GREATEST_KEY}
use Rattle.crack_row.specs.declared.Bound.{Bound}
use Rattle.crack_row.specs.declared.command.Policy.{Policy}
use Rattle.crack_row.specs.declared.command.Policy.TheVariants.{Complete, Gradual, Ripple, Auto}
use Rattle.crack_row.specs.declared.layout.Layout.{Layout}
use Rattle.crack_row.specs.declared.layout.PieceSize.{PieceSize}
use Rattle.crack_row.specs.declared.limit.Limits.{Limits}
use Rattle.crack_row.specs.declared.refusal.Refusal.{Refusal}
use Rattle.crack_row.specs.declared.refusal.Refusal.TheVariants.{OutOfMemory}
use Rattle.crack_plain.specs.Plain.{checkpointed_table}
use Rattle.crack_store.specs.Inside.{IsLayoutOf}
use Rattle.crack_part.specs.Parts.{Part, table_of}
use Rattle.crack_core.specs.Bulk.{NumberedCall, Went}
use Rattle.crack_core.specs.Jobs.{IsCheckpointedAt}
use Rattle.crack_core.specs.Opening.{opening_fault, MayFault}
use Rattle.crack_core.specs.Routes.{keys_of_part}
use Rattle.crack_core.specs.Steps.{tables_of, changed_at, IsLayoutOutcome, expected_checkpoint, fresh_table}
use Rattle.crack_core.specs.declared.bulk.BulkProgress.{BulkProgress}
use Rattle.crackd_c.specs.declared.handle.TableHandle.{TableHandle}
use Rattle.crackd_c.specs.declared.picture.LayoutTotals.{LayoutTotals}
use Rattle.crackd_c.specs.declared.status.TheConstants.{CLOSED, LENGTHS_DIFFER, NO_SUCH_POLICY}

-- the policy with this number: 0 is complete, 1 gradual, 2 ripple, 3 auto; `None` for any other number
abbrev pub policy_at : ℕ → Option Policy
policy_at n = if n == 0 then Some Complete else (if n == 1 then Some Gradual else (if n == 2 then Some Ripple else (if n == 3 then Some Auto else None)))

-- the totals of a layout: its numbers, and how many pieces its list has
abbrev pub totals_in : Layout → LayoutTotals
totals_in layout = record { rows = layout.rows; column = layout.column; pending_out = layout.pending_out; pending_in = layout.pending_in; cells = layout.cells; free = layout.free; pieces = length layout.pieces }

-- at each piece's index, as far as `lows` has room, `sizes` has the piece's number of rows, and `lows` has its least
-- key; what `lows` has for a piece above all keys isn't said
abbrev pub PiecesIn : List PieceSize → List ℕ → List ℕ → Type 0
PiecesIn pieces lows sizes = (k : ℕ) (piece : PieceSize) → slice_get pieces k ≡ Some piece → k < length lows →
    (piece.low.0 ≤ GREATEST_KEY → slice_index_or lows k 0 ≡ piece.low.0) × (slice_index_or sizes k 0 ≡ piece.size)

-- the return value of a call that was made: 0 if it was answered, else the number of its refusal
abbrev pub status_of : Option Refusal → ℕ
status_of refusal = option_map_or code_of refusal 0

-- the limit of a history for the number that C passed: none if it is 0, else as `history_limit` says
abbrev pub history_from : ℕ → ℕ
history_from number = history_limit (if number == 0 then None else Some number)

-- the bounds with these numbers, in order
abbrev pub bounds_at : List ℕ → List Bound
bounds_at splits = map (λ (split : ℕ). record { 0 = split }) splits

-- the handle holds a table after the call, with the splits and the limits from before the call
abbrev pub StaysOpen : TableHandle → TableHandle → Type 0
StaysOpen old new = (new.is_open ≡ true) × (new.core.splits ≡ old.core.splits) × (new.core.limits ≡ old.core.limits)

-- the call isn't made: it returns the number `why`, the last argument, and changes and writes nothing
abbrev pub Declines : TableHandle → TableHandle → ℕ → Type 0 → ℕ → Type 0
Declines old new status unwritten why = (status ≡ why) × (new ≡ old) × unwritten

-- a call on a table: `Made` says what it does if the handle holds one; otherwise it only returns `CLOSED`
abbrev pub OnTable : TableHandle → TableHandle → ℕ → Type 0 → (TableHandle → TableHandle → ℕ → Type 0 → Type 0) → Type 0
OnTable old new status unwritten Made = (old.is_open ≡ false → Declines old new status unwritten CLOSED) × (old.is_open ≡ true → Made old new status unwritten)

-- a call with lists: `Made` says what it does if all `lengths` are `count`; else it only returns `LENGTHS_DIFFER`
abbrev pub OnLists : ℕ → List ℕ → (TableHandle → TableHandle → ℕ → Type 0 → Type 0) → TableHandle → TableHandle → ℕ → Type 0 → Type 0
OnLists count lengths Made old new status unwritten =
    ((AllByRecursion (λ n. n ≡ count) lengths → ⊥) → Declines old new status unwritten LENGTHS_DIFFER) × (AllByRecursion (λ n. n ≡ count) lengths → Made old new status unwritten)

-- a call by the policy with this number, as `Made` says; if no policy has it, the call only returns `NO_SUCH_POLICY`
abbrev pub ByPolicy : ℕ → (Policy → TableHandle → TableHandle → ℕ → Type 0 → Type 0) → TableHandle → TableHandle → ℕ → Type 0 → Type 0
ByPolicy number Made old new status unwritten = MatchOption (policy_at number) (Declines old new status unwritten NO_SUCH_POLICY) (λ policy. Made policy old new status unwritten)

-- a call on a table, which stays open: `Asks` relates the table's limits and splits, the outcome, and the partitions
-- before and after; either the status is 0, and `Writes` says what is written for the value, or the status is the
-- number of the refusal, and nothing is written
abbrev pub ComesOut : {X : Type 0} → (Limits → List Bound → Result X Refusal → List Part → List Part → Type 0) → (X → Type 0) → TableHandle → TableHandle → ℕ → Type 0 → Type 0
ComesOut {X} Asks Writes old new status unwritten = StaysOpen old new × ((outcome : Result X Refusal) × Asks old.core.limits old.core.splits outcome old.core.parts new.core.parts × MatchResult outcome (λ x. (status ≡ 0) × Writes x) (λ e. (status ≡ code_of e) × unwritten))

-- a call with lists on a table, which stays open, makes its `count` calls, each with the effect `call`, up to the
-- first refusal: the status is 0 or the refusal's number, and `done`, the second number, is how many were answered
abbrev pub GoesThrough : (Limits → List Bound → NumberedCall) → ℕ → ℕ → TableHandle → TableHandle → ℕ → Type 0 → Type 0
GoesThrough call count done old new status unwritten = StaysOpen old new × ((progress : BulkProgress) × (status ≡ status_of progress.refusal) × (done ≡ progress.done) × Went (call old.core.limits old.core.splits) count old.core.parts progress new.core.parts)

-- the status is 0, and the layout of the partition `part` is written to `totals` and, as `PiecesIn` says, to `lows`
-- and `sizes`; or the status is the refusal's number, and nothing is written; the table is unchanged
abbrev pub Shows : ℕ → LayoutTotals → List ℕ → List ℕ → TableHandle → TableHandle → ℕ → Type 0 → Type 0
Shows part totals lows sizes old new status unwritten = (new.is_open ≡ true) × (new.core ≡ old.core) × ((outcome : Result Layout Refusal) × IsLayoutOutcome (keys_of_part old.core.splits part) (slice_get (tables_of old.core.parts) part) outcome × IfOk outcome (λ layout. (p : Part) → slice_get old.core.parts part ≡ Some p → IsLayoutOf p.store layout) × MatchResult outcome (λ layout. (status ≡ 0) × (totals ≡ totals_in layout) × PiecesIn layout.pieces lows sizes) (λ e. (status ≡ code_of e) × unwritten))

-- a checkpoint of the partition `part` is made, with the status 0: `folded` is how many commands it had accepted since
-- its previous one, and its store and the other partitions are unchanged. Or the status is the number of the refusal,
-- the table is unchanged, and nothing is written. The table stays open.
abbrev pub CheckpointsOne : ℕ → ℕ → TableHandle → TableHandle → ℕ → Type 0 → Type 0
CheckpointsOne part folded old new status unwritten = StaysOpen old new × ((outcome : Result ℕ Refusal) × (outcome ≡ expected_checkpoint (slice_get (tables_of old.core.parts) part)) × (tables_of new.core.parts ≡ changed_at checkpointed_table (tables_of old.core.parts) part outcome) × OnOk outcome (IsCheckpointedAt part old.core.parts new.core.parts) × OnErr outcome (new.core ≡ old.core) × MatchResult outcome (λ count. (status ≡ 0) × (folded ≡ count)) (λ e. (status ≡ code_of e) × unwritten))

-- the handle holds a table that was just opened with these splits and limits, in which `opening_fault` finds no fault:
-- it has no rows, and has accepted no command
abbrev pub IsJustOpened : TableHandle → List ℕ → Limits → Type 0
IsJustOpened handle splits limits = (handle.is_open ≡ true) × (handle.core.splits ≡ bounds_at splits) × (handle.core.limits ≡ limits) × All (λ (part : Part). table_of part ≡ fresh_table) handle.core.parts × (opening_fault (bounds_at splits) limits ≡ None)

-- the status is 0, and the handle `new` holds a table that was just opened with these splits and limits
-- (`IsJustOpened`); or the status is the number of the refusal, and the handle is unchanged
abbrev pub OpensHandle : TableHandle → TableHandle → List ℕ → Limits → ℕ → Type 0
OpensHandle old new splits limits status = (refusal : Option Refusal) × (status ≡ status_of refusal) × MatchOption refusal (IsJustOpened new splits limits) (λ e. (MayFault (opening_fault (bounds_at splits) limits) e ⊎ (e ≡ OutOfMemory)) × (new ≡ old))
