-- Lists of calls, made in order up to the first refusal; ranges by their first and last keys; sums in two halves. The
-- arguments and results of the call with index `k` are at index `k` of the lists. `refusal` is why it is refused,
-- `None` if it is answered; `old` and `new` are the partitions before and after it.
use Rattle.std.specs.Prelude.{◌≡◌, ℕ, ◌+◌, ◌<◌, ◌≤◌, ◌^◌, ℤ, pos, ◌+ℤ◌, ◌*ℤ◌, Bool, List, Option, None, Some, Result, Err, is_some, slice_index_or, if◌then◌else◌}
use Rattle.crack_row.specs.Ranges.{Range}
use Rattle.crack_row.specs.declared.Bound.{Bound}
use Rattle.crack_row.specs.declared.Key.{Key}
use Rattle.crack_row.specs.declared.Payload.{Payload}
use Rattle.crack_row.specs.declared.Row.{Row}
use Rattle.crack_row.specs.declared.RowNo.{RowNo}
use Rattle.crack_row.specs.declared.limit.Limits.{Limits}
use Rattle.crack_row.specs.declared.command.Policy.{Policy}
use Rattle.crack_row.specs.declared.refusal.Refusal.{Refusal}
use Rattle.crack_row.specs.declared.refusal.Refusal.TheVariants.{BadRange}
use Rattle.crack_part.specs.Parts.{Part}
use Rattle.crack_core.specs.Asking.{Inserts, Deletes, Updates, CountsRange, Sums}
use Rattle.crack_core.specs.Steps.{unless}
use Rattle.crack_core.specs.declared.bulk.BulkProgress.{BulkProgress}

-- what a call of a list does: relates its index, its refusal (`None` if answered), and the partitions before and after
abbrev pub NumberedCall : Type 1
NumberedCall = ℕ → Option Refusal → List Part → List Part → Type 0

-- this many calls of a list were answered, in order and from the first on, and led from the partitions `old` to these
pub data Answered (call : NumberedCall) (old : List Part) : ℕ → List Part → Type 0 where
  none : Answered call old 0 old
  one_more : (done : ℕ) (between new : List Part) → Answered call old done between → call done None between new → Answered call old (done + 1) new

-- the `count` calls of a list were made in order, from the partitions `old` on, up to the first refusal: the progress
-- has how many were answered, which is all or those before the refused one, and the refusal, if there is one
pub data Went (call : NumberedCall) (count : ℕ) (old : List Part) : BulkProgress → List Part → Type 0 where
  whole : (new : List Part) → Answered call old count new → Went call count old (record { done = count; refusal = None }) new
  stopped : (done : ℕ) (e : Refusal) (between new : List Part) → done < count → Answered call old done between → call done (Some e) between new → Went call count old (record { done = done; refusal = Some e }) new

-- the key at an index of a list of numbers, or the key 0 if the list ends before the index
abbrev pub key_in : List ℕ → ℕ → Key
key_in keys k = record { 0 = slice_index_or keys k 0 }

-- the payload at an index of a list of numbers, or the payload 0 if the list ends before the index
abbrev pub payload_in : List ℤ → ℕ → Payload
payload_in payloads k = record { 0 = slice_index_or payloads k (pos 0) }

-- the row number with this partition and this serial
abbrev pub row_number : ℕ → ℕ → RowNo
row_number part serial = record { part = part; serial = record { 0 = serial } }

-- 1 for true, 0 for false
abbrev pub flag : Bool → ℕ
flag is = if is then 1 else 0

-- the call inserts a row; its key, payload and, if answered, partition and serial are at its index in these lists
abbrev pub InsertsAt : Limits → List Bound → List ℕ → List ℤ → List ℕ → List ℕ → NumberedCall
InsertsAt limits splits keys payloads parts serials k refusal old new = Inserts limits splits (key_in keys k) (payload_in payloads k) (unless refusal (row_number (slice_index_or parts k 0) (slice_index_or serials k 0))) old new

-- the call deletes the row whose partition and serial are at its index in the first two lists; if it is answered, the
-- third list has 1 there if the row existed, else 0
abbrev pub DeletesAt : Limits → List Bound → List ℕ → List ℕ → List ℕ → NumberedCall
DeletesAt limits splits parts serials gone k refusal old new =
    (row : Option Row) × Deletes limits splits (row_number (slice_index_or parts k 0) (slice_index_or serials k 0)) (unless refusal row) old new × (refusal ≡ None → slice_index_or gone k 0 ≡ flag (is_some row))

-- the call gives the row whose partition and serial are at its index in the first two lists the key and payload there
-- in the next two; if it is answered, the last list has 1 there if the row exists, else 0
abbrev pub UpdatesAt : Limits → List Bound → List ℕ → List ℕ → List ℕ → List ℤ → List ℕ → NumberedCall
UpdatesAt limits splits parts serials keys payloads found k refusal old new =
    (is : Bool) × Updates limits splits (row_number (slice_index_or parts k 0) (slice_index_or serials k 0)) (key_in keys k) (payload_in payloads k) (unless refusal is) old new × (refusal ≡ None → slice_index_or found k 0 ≡ flag is)

-- A query about the keys from `first` to `last`, both included. `Asks` holds for the range of these keys, which may be
-- empty; but if `first` is above `last` + 1, the query is refused with `BadRange`, and nothing changes.
pub record OverKeys {X : Type 0} (Asks : Range → Result X Refusal → List Part → List Part → Type 0) (first last : ℕ) (result : Result X Refusal) (old new : List Part) : Type 0 where
  pub asked : first ≤ last + 1 → Asks (record { low = first; high = last + 1 }) result old new
  pub refused : last + 1 < first → (result ≡ Err BadRange) × (new ≡ old)

-- the sum whose low 64 bits are the first number, and whose bits above them are the second, a signed number
abbrev pub of_halves : ℕ → ℤ → ℤ
of_halves low high = pos low +ℤ (high *ℤ pos (2 ^ 64))

-- the call counts, under this policy, the rows with keys from the one at its index in the first list to the one there
-- in the second, both included; if it is answered, the third list has the count there
abbrev pub CountsAt : Limits → List Bound → Policy → List ℕ → List ℕ → List ℕ → NumberedCall
CountsAt limits splits policy firsts lasts counts k refusal old new = OverKeys (CountsRange limits splits policy) (slice_index_or firsts k 0) (slice_index_or lasts k 0) (unless refusal (slice_index_or counts k 0)) old new

-- the call sums, under this policy, the payloads of the rows with keys from the one at its index in the first list to
-- the one there in the second, both included; if it is answered, the last two lists have the sum's halves there
abbrev pub SumsAt : Limits → List Bound → Policy → List ℕ → List ℕ → List ℕ → List ℤ → NumberedCall
SumsAt limits splits policy firsts lasts lows highs k refusal old new =
    OverKeys (Sums limits splits policy) (slice_index_or firsts k 0) (slice_index_or lasts k 0) (unless refusal (of_halves (slice_index_or lows k 0) (slice_index_or highs k (pos 0)))) old new
