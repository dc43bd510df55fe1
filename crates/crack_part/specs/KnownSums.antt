-- What private clauses alone cite.
-- The sums of the payloads of rows by ranges of keys, over the rows inserted before a serial. `next` is the serial of
-- the next inserted row, and `since` what it was when the sums were last used.
use Rattle.std.specs.Prelude.{◌≡◌, ℕ, ℤ, pos, ◌+◌, ◌+ℤ◌, ◌-◌, ◌*◌, ◌<◌, ◌≤◌, nat_lt, cond, List, [], Option, Some, None, Result, Ok, Err}
use Rattle.std.specs.List.Sorted.{IsPermutation}
use Rattle.crack_row.specs.Ranges.{Range, in_range}
use Rattle.crack_row.specs.Rows.{amount, total_by, sum_of}
use Rattle.crack_row.specs.declared.Row.{Row}
use Rattle.crack_row.specs.declared.command.Command.{Command}
use Rattle.crack_row.specs.declared.command.Reply.{Reply}
use Rattle.crack_row.specs.declared.refusal.Refusal.{Refusal}
use Rattle.crack_plain.specs.Plain.{PlainState, rows_in, after}
use Rattle.crack_index.specs.Sums.{AreRight}
use Rattle.crack_state.specs.State.{State, live_rows}
use Rattle.crack_state.specs.Merge.{IsCracked, IsSettled, edge}
use Rattle.crack_part.specs.declared.known.TheConstants.{MOST_PLACED}
use Rattle.crack_part.specs.Parts.{Part, IsSound, state_of}

-- what a row, if any, adds to the sum of a range from `low` to `high`: its payload if its key is in the range, else 0
abbrev pub added_amount : ℕ → ℕ → Option Row → ℤ
added_amount low high None = pos 0
added_amount low high (Some row) = cond (in_range (record { low = low; high = high }) row) (amount row.payload) (pos 0)

-- what a row adds to the sum of a range: its payload if its key is in it and its serial is below `since`, else 0
abbrev pub adds : ℕ → Range → Row → ℤ
adds since range row = cond (nat_lt row.serial.0 since) (added_amount range.low range.high (Some row)) (pos 0)

-- the sum of the payloads of the rows with a serial below `since` and a key from `low` up to but not including `high`
abbrev pub sum_before : ℕ → List Row → ℕ → ℕ → ℤ
sum_before since rows low high = total_by (adds since (record { low = low; high = high })) rows

-- the sum `m low high` of the range from `low` to `high`, plus what a row, if there is one, adds to it
-- (`added_amount`)
abbrev pub with_row : Option Row → (ℕ → ℕ → ℤ) → ℕ → ℕ → ℤ
with_row row m low high = m low high +ℤ added_amount low high row

-- the pieces, each as the key where it begins and its sum, `UNKNOWN` if that isn't known; and the serial `since`: the
-- sums are those of the rows with a lower serial
pub record Known : Type 0 where
  pub pieces : List (ℕ × ℤ)
  pub since : ℕ

-- each known sum is that of the plain rows in its piece with a serial below `since`, which is at most the next serial
pub record KnowsSums (known : Known) (plain : PlainState) : Type 0 where
  pub past : known.since ≤ plain.next
  pub right : AreRight (sum_before known.since plain.rows) known.pieces

-- at most 256 rows were inserted since the sums were last used
abbrev pub IsFresh : ℕ → Known → Type 0
IsFresh next known = next ≤ known.since + MOST_PLACED

-- the same known sums, but no pieces if over 256 rows were inserted since the sums were last used
abbrev pub left_known : ℕ → Known → Known
left_known next known = cond (nat_lt MOST_PLACED (next - known.since)) (record known { pieces = [] }) known

-- if a store is settled for `range`, and this lies within the store's keys, it is settled for `other` too
abbrev pub SettlesToo : State → Range → Range → Type 0
SettlesToo s range other = IsSettled s range → s.keys.low ≤ range.low → range.high ≤ s.keys.high → IsSettled s other

-- `sum` is the sum of the payloads of the live rows with keys from `low` up to but not including `high`, if the store
-- is settled for `range`, and `range` lies within the store's keys
abbrev pub SaysSettled : State → Range → ℕ → ℕ → ℤ → Type 0
SaysSettled s range low high sum = IsSettled s range → s.keys.low ≤ range.low → range.high ≤ s.keys.high → (plain : List Row) → IsPermutation (live_rows s) plain → sum ≡ sum_of (rows_in (record { low = low; high = high }) plain)

-- the column is cracked at the ends of `part` and `whole`, and `part` has more than half as many rows as `whole`
pub record HasMost (s : State) (part whole : Range) : Type 0 where
  pub in_part : IsCracked s part
  pub in_whole : IsCracked s whole
  pub rows : edge s whole.high - edge s whole.low < 2 * (edge s part.high - edge s part.low)

-- after a command with this outcome the known sums are those of the plain rows (`KnowsSums`): of the rows after the
-- command if it was answered; of `plain`, the rows before it, if it was refused
abbrev pub KnowsThen : Known → PlainState → Command → Result Reply Refusal → Type 0
KnowsThen known plain command (Ok reply) = KnowsSums known (after plain command)
KnowsThen known plain command (Err refusal) = KnowsSums known plain

-- the invariant of a partition, including that the known sums are those of its plain rows
pub record KnowsPart (known : Known) (part : Part) : Type 0 where
  pub sound : IsSound part
  pub knows : KnowsSums known (state_of part)
