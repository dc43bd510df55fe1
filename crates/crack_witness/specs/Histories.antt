-- The history of each owner in the events of a book, and the plain table after that history. A book is the list of the
-- events of all partitions; a partition's owner is its number there. An entry is an answered command: its worker, the
-- command and the reply. `log` and every other list of events is a book or a first part of one.
use Rattle.std.specs.Prelude.{◌≡◌, ◌≢◌, ℕ, ◌==◌, List, [], ◌∷◌, ◌++◌, length, take, drop, option_to_list, filter, if◌then◌else◌}
use Rattle.crack_row.specs.declared.command.Entry.{Entry}
use Rattle.crack_row.specs.declared.limit.Limits.{Limits}
use Rattle.crack_plain.specs.Plain.{PlainView, AreReplies, no_rows, accepted_of}
use Rattle.crack_plain.specs.Past.{Past, no_base, base_after, state_after, checkpointed_past}
use Rattle.crack_part.specs.Upkeep.{is_due}
use Rattle.crack_witness.specs.declared.event.Event.{Event}

-- the entries of one owner among the events, in order
abbrev pub history_of : ℕ → List Event → List Entry
history_of owner [] = []
history_of owner (e ∷ es) = (if e.owner == owner then option_to_list e.entry else []) ++ history_of owner es

-- the entries of each owner are a history: each reply is that of the plain rows after the entries before it
abbrev pub AreHistories : List Event → Type 0
AreHistories log = (owner : ℕ) → AreReplies no_rows (history_of owner log)

-- no owner has an entry among the events
abbrev pub AreEmpty : List Event → Type 0
AreEmpty log = (owner : ℕ) → history_of owner log ≡ []

-- those of the entries that are by one worker, in order
abbrev pub calls_by : ℕ → List Entry → List Entry
calls_by worker es = filter (λ (e : Entry). e.worker == worker) es

-- the entries of a worker in the history that these events have of partition `part`, whose owner is `owner part`
abbrev pub calls_at : (ℕ → ℕ) → ℕ → ℕ → List Event → List Entry
calls_at owner part worker log = calls_by worker (history_of (owner part) log)

-- a plain table that has answered a history: its rows are those after the history, and it has accepted as many
-- commands as the history has entries
pub record IsPastOf (history : List Entry) (table : PlainView) : Type 0 where
  pub rows : table.state ≡ state_after (record { base = no_base; tail = history })
  pub all : accepted_of table ≡ length history

-- the past of a plain table that has answered a history: the base is that after the commands up to the last
-- checkpoint, and the tail is the entries since
abbrev pub past_in : List Entry → PlainView → Past
past_in history table = record { base = base_after (record { base = no_base; tail = take table.checkpointed history }); tail = drop table.checkpointed history }

-- the past to which the next entry is added: that after a checkpoint if one is due by these limits, else the same past
abbrev pub upkept_past : Limits → Past → Past
upkept_past limits past = if is_due limits (length past.tail) then checkpointed_past past else past
