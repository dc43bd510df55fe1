-- A partition's past: its base, for the commands up to the last checkpoint, and the commands answered since.
use Rattle.std.specs.Prelude.{◌≡◌, ℕ, ◌+◌, ◌≤◌, List, [], ◌∷◌, ◌++◌, length, fold, All, IfSome}
use Rattle.crack_row.specs.Commands.{key_of}
use Rattle.crack_row.specs.Ranges.{Range, IsIn}
use Rattle.crack_row.specs.declared.Key.{Key}
use Rattle.crack_row.specs.declared.Row.{Row}
use Rattle.crack_row.specs.declared.command.Entry.{Entry}
use Rattle.crack_row.specs.declared.limit.Limits.{Limits}
use Rattle.crack_plain.specs.Plain.{PlainState, no_rows, IsNumbered, after, AreReplies}
use Rattle.crack_plain.specs.Totals.{inserted, deleted}

-- what is kept of the commands up to the last checkpoint: the plain state after them, how many they were
-- (`checkpointed`), and how many rows they inserted (`placed`) and deleted (`gone`)
pub record Base : Type 0 where
  pub state : PlainState
  pub checkpointed : ℕ
  pub placed : ℕ
  pub gone : ℕ

-- the numbers of a base agree. The rows' serials rise and are below the next serial (`IsNumbered`), which is the
-- number of rows inserted. As many rows were inserted as there are rows in the state and rows deleted. There were at
-- least as many commands as insertions and deletions together
pub record IsBase (base : Base) : Type 0 where
  pub numbered : IsNumbered base.state
  pub serial : base.state.next ≡ base.placed
  pub held : length base.state.rows + base.gone ≡ base.placed
  pub few : base.placed + base.gone ≤ base.checkpointed

-- the base of a partition that has made no checkpoint
abbrev pub no_base : Base
no_base = record { state = no_rows; checkpointed = 0; placed = 0; gone = 0 }

-- a partition's past: its base, and its history `tail`, the list of the entries since the base, in order
pub record Past : Type 0 where
  pub base : Base
  pub tail : List Entry

-- the past of a partition that has answered nothing
abbrev pub no_past : Past
no_past = record { base = no_base; tail = [] }

-- the past with one more entry, which becomes the last one of the history
abbrev pub with_entry : Past → Entry → Past
with_entry past entry = record past { tail = past.tail ++ entry ∷ [] }

-- the plain state after a past: the base's state after the commands of the history, in order
abbrev pub state_after : Past → PlainState
state_after past = fold (λ (s : PlainState) (e : Entry). after s e.command) past.base.state past.tail

-- how many commands were accepted since the partition was opened
abbrev pub accepted_in : Past → ℕ
accepted_in past = past.base.checkpointed + length past.tail

-- how many rows were inserted since the partition was opened
abbrev pub inserted_in : Past → ℕ
inserted_in past = past.base.placed + inserted past.tail

-- how many rows were deleted since the partition was opened
abbrev pub deleted_in : Past → ℕ
deleted_in past = past.base.gone + deleted past.tail

-- the base that a checkpoint makes of a past: the plain state after the past, and how many commands were accepted,
-- and rows inserted and deleted, since the partition was opened
abbrev pub base_after : Past → Base
base_after past = record { state = state_after past; checkpointed = accepted_in past; placed = inserted_in past; gone = deleted_in past }

-- the past after a checkpoint: the base is that of `base_after`, and the history is empty
abbrev pub checkpointed_past : Past → Past
checkpointed_past past = record { base = base_after past; tail = [] }

-- a possible past of a partition with the key range `keys` and these limits. The numbers of its base agree (`IsBase`).
-- The keys of the base's rows, and those that the history's commands give rows, lie in `keys`. The replies are those
-- of a plain table that begins with the base's state (`AreReplies`). The history has at most `limits.history` entries,
-- and at most `limits.life` commands were accepted in total
pub record IsLegal (keys : Range) (limits : Limits) (past : Past) : Type 0 where
  pub base : IsBase past.base
  pub stand : All (λ (row : Row). IsIn keys row.key.0) past.base.state.rows
  pub replies : AreReplies past.base.state past.tail
  pub within : All (λ (e : Entry). IfSome (key_of e.command) (λ (key : Key). IsIn keys key.0)) past.tail
  pub limited : length past.tail ≤ limits.history
  pub lived : accepted_in past ≤ limits.life
