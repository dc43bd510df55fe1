-- The plain table: rows that commands change and ranges filter, without pieces, handles, pending rows, policies or
-- locks.
use Rattle.std.specs.Prelude.{◌≡◌, ℕ, pos, neg_ℤ, ◌<ℤ◌, ◌+◌, ◌<◌, ◌^◌, nat_lt, if◌then◌else◌, List, [], ◌∷◌, ◌++◌, length, map, filter, find, count_by, unwrap_or, option_map, All, AllPairs, Option, Some, None, Bool, true, false}
use Rattle.crack_row.specs.Ranges.{Range, in_range}
use Rattle.crack_row.specs.Commands.{change_of}
use Rattle.crack_row.specs.Replies.{IsFlat}
use Rattle.crack_row.specs.Rows.{row_with, has_serial, is_other, replaced, sum_of}
use Rattle.crack_row.specs.declared.TheConstants.{GREATEST_BOUND}
use Rattle.crack_row.specs.declared.layout.Layout.{Layout}
use Rattle.crack_row.specs.declared.Row.{Row}
use Rattle.crack_row.specs.declared.Serial.{Serial}
use Rattle.crack_row.specs.declared.command.Change.{Change}
use Rattle.crack_row.specs.declared.command.Change.TheVariants.{Place, Remove, Rewrite}
use Rattle.crack_row.specs.declared.command.Command.{Command}
use Rattle.crack_row.specs.declared.command.Command.TheVariants.{Insert, Delete, Update, Count, Sum, Select}
use Rattle.crack_row.specs.declared.command.Reply.{Reply}
use Rattle.crack_row.specs.declared.command.Reply.TheVariants.{Placed, Gone, Changed, NoRow, Counted, Summed, Rows}
use Rattle.crack_row.specs.declared.command.Entry.{Entry}

-- the rows, by rising serial, and the serial that the next inserted row gets
pub record PlainState : Type 0 where
  pub rows : List Row
  pub next : ℕ

-- the initial state: no rows, and 0 is the next serial
abbrev pub no_rows : PlainState
no_rows = record { rows = []; next = 0 }

-- the rows' serials rise strictly, and the next serial is above all of them
pub record IsNumbered (s : PlainState) : Type 0 where
  pub rising : AllPairs (λ (earlier later : Row). earlier.serial.0 < later.serial.0) s.rows
  pub below : All (λ (row : Row). row.serial.0 < s.next) s.rows

-- the list after this row was inserted before the first row with a greater serial, or at the end if there is none
abbrev pub put_by_serial : Row → List Row → List Row
put_by_serial row [] = row ∷ []
put_by_serial row (r ∷ rows) = if nat_lt row.serial.0 r.serial.0 then row ∷ r ∷ rows else r ∷ put_by_serial row rows

-- the rows, sorted by serial
abbrev pub by_serial : List Row → List Row
by_serial [] = []
by_serial (row ∷ rows) = put_by_serial row (by_serial rows)

-- the first row with this serial; none if no row has it
abbrev pub row_in : List Row → Serial → Option Row
row_in rows serial = find (has_serial serial.0) rows

-- the rows whose key is in the range, in the same order
abbrev pub rows_in : Range → List Row → List Row
rows_in range rows = filter (in_range range) rows

-- the reply of a plain table in this state to a command: for an insert the next serial; for a delete the row with the
-- serial, and for an update `Changed`, or for both `NoRow` if no row has the serial; for a count, a sum or a select
-- the number, the sum of the payloads or the list of the rows in the range
abbrev pub reply_to : PlainState → Command → Reply
reply_to s (Insert key payload) = Placed (record { 0 = s.next })
reply_to s (Delete serial) = unwrap_or (option_map Gone (row_in s.rows serial)) NoRow
reply_to s (Update serial key payload) = unwrap_or (option_map (λ row. Changed) (row_in s.rows serial)) NoRow
reply_to s (Count range) = Counted (count_by (in_range range) s.rows)
reply_to s (Sum range) = Summed (sum_of (rows_in range s.rows))
reply_to s (Select range) = Rows (rows_in range s.rows)

-- the reply is small: a count below 2^32, a sum strictly between -2^96 and 2^96, a list of fewer than 2^32 rows, or a
-- reply of another kind, which is always small
abbrev pub IsSmall : Reply → Type 0
IsSmall (Counted count) = count < 2 ^ 32
IsSmall (Summed sum) = (neg_ℤ (pos (2 ^ 96)) <ℤ sum) × (sum <ℤ pos (2 ^ 96))
IsSmall (Rows rows) = length rows < 2 ^ 32
IsSmall _ = Unit {0}

-- the state after a change, or the same state if there is none: an inserted row comes last and gets the next serial,
-- which rises by one; a deletion removes the row with its serial; an update replaces that row's key and payload, and
-- the row keeps its serial and its place; neither changes anything if no row has the serial
abbrev pub changed : PlainState → Option Change → PlainState
changed s None = s
changed s (Some (Place key payload)) = record { rows = s.rows ++ record { serial = record { 0 = s.next }; key = key; payload = payload } ∷ []; next = s.next + 1 }
changed s (Some (Remove serial)) = record s { rows = filter (is_other serial.0) s.rows }
changed s (Some (Rewrite serial key payload)) = record s { rows = map (replaced (row_with serial key payload)) s.rows }

-- the state after a command was answered in this state
abbrev pub after : PlainState → Command → PlainState
after s command = changed s (change_of command)

-- whether there is a change and it inserts a row
abbrev pub places_row : Option Change → Bool
places_row (Some (Place key payload)) = true
places_row _ = false

-- in this state the command takes no memory: it inserts no row, and its reply has no list
pub record TakesNoMemory (s : PlainState) (command : Command) : Type 0 where
  pub places : places_row (change_of command) ≡ false
  pub flat : IsFlat (reply_to s command)

-- the reply to a command in this state, and the state after it; neither depends on a policy
abbrev pub answer : PlainState → Command → Reply × PlainState
answer s command = (reply_to s command, after s command)

-- a plain table that begins with this state, and answers the entries' commands in order, gives the entries' replies
abbrev pub AreReplies : PlainState → List Entry → Type 0
AreReplies s [] = Unit {0}
AreReplies s (e ∷ es) = (e.reply ≡ reply_to s e.command) × AreReplies (after s e.command) es

-- a plain table: its state, how many commands it accepted up to its last checkpoint, if any, and how many since
pub record PlainView : Type 0 where
  pub state : PlainState
  pub checkpointed : ℕ
  pub since : ℕ

-- how many commands the table accepted in total
abbrev pub accepted_of : PlainView → ℕ
accepted_of table = table.checkpointed + table.since

-- the table after a checkpoint: its state and total of accepted commands are the same, and none was accepted since
abbrev pub checkpointed_table : PlainView → PlainView
checkpointed_table table = record { state = table.state; checkpointed = accepted_of table; since = 0 }

-- the range of all keys
abbrev pub all_keys : Range
all_keys = record { low = 0; high = GREATEST_BOUND }

-- the layout of the rows as a column of one piece: each row has a cell, and nothing is pending or free
abbrev pub whole_layout : PlainState → Layout
whole_layout s = record { rows = length s.rows; column = length s.rows; pending_out = 0; pending_in = 0; cells = length s.rows; free = 0; pieces = record { low = record { 0 = 0 }; high = record { 0 = GREATEST_BOUND }; size = length s.rows } ∷ [] }
