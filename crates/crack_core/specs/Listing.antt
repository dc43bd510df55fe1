-- The rows of a range, written into lists.
use Rattle.std.specs.Prelude.{◌≡◌, ℕ, ◌<◌, ℤ, List, [], map, length, Some, Result, slice_get, slice_index_or}
use Rattle.std.specs.List.{flat_map}
use Rattle.crack_row.specs.Ranges.{Range}
use Rattle.crack_row.specs.Rows.{row_with}
use Rattle.crack_row.specs.declared.Bound.{Bound}
use Rattle.crack_row.specs.declared.Row.{Row}
use Rattle.crack_row.specs.declared.limit.Limits.{Limits}
use Rattle.crack_row.specs.declared.command.Policy.{Policy}
use Rattle.crack_row.specs.declared.command.Reply.{Reply}
use Rattle.crack_row.specs.declared.command.Reply.TheVariants.{Rows}
use Rattle.crack_row.specs.declared.refusal.Refusal.{Refusal}
use Rattle.crack_part.specs.Parts.{Part}
use Rattle.crack_core.specs.Asking.{ReadsParts}
use Rattle.crack_core.specs.Bulk.{key_in, payload_in}
use Rattle.crack_core.specs.declared.turns.PartReply.{PartReply}
use Rattle.crack_row.specs.declared.command.Command.TheVariants.{Select}

-- the rows in the reply to a select; an empty list for any other reply
abbrev pub rows_listed : Reply → List Row
rows_listed (Rows rows) = rows
rows_listed _ = []

-- the rows of all replies as one list, each with its partition's number
abbrev pub all_listed : List PartReply → List (ℕ × Row)
all_listed replies = flat_map (λ (r : PartReply). map (λ row. (r.part, row)) (rows_listed r.reply)) replies

-- the four lists begin with the partitions, serials, keys and payloads of these rows, each given with its partition's
-- number: as many rows as `parts` has room for
abbrev pub AreInLists : List (ℕ × Row) → List ℕ → List ℕ → List ℕ → List ℤ → Type 0
AreInLists rows parts serials keys payloads = (k : ℕ) (row : ℕ × Row) → slice_get rows k ≡ Some row → k < length parts →
    (slice_index_or parts k 0, row_with (record { 0 = slice_index_or serials k 0 }) (key_in keys k) (payload_in payloads k)) ≡ row

-- the rows of a range are listed under this policy (`ReadsParts`): the result is how many there are, or a refusal; if
-- it isn't a refusal, the four lists begin with as many of the rows as there is room for (`AreInLists`)
abbrev pub Selects : Limits → List Bound → Policy → List ℕ → List ℕ → List ℕ → List ℤ → Range → Result ℕ Refusal → List Part → List Part → Type 0
Selects limits splits policy parts serials keys payloads range result old new =
    ReadsParts limits splits policy (λ part. Select part) (λ said found. (found ≡ length (all_listed said)) × AreInLists (all_listed said) parts serials keys payloads) range result old new
