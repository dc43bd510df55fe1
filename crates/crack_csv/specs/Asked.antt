-- The calls of a desk by a load and an export, whether or not its rows are known. `leads` says what one call does to a
-- desk, `splits` are its table's splits, and `old` and `new` the desk before and after; `out` and `out'` are the bytes
-- written before and after, if known; `failed` and `failed'` are whether the writer has failed before and after.
use Rattle.std.specs.Prelude.{◌≡◌, ℕ, ◌+◌, ◌-◌, ◌^◌, ◌≤◌, ◌⊎◌, Bool, true, List, [], ◌∷◌, ◌++◌, length, map, Option, None, Some, Result, Ok, Err}
use Rattle.std.specs.List.{AllZip, concat, flat_map}
use Rattle.std.specs.Io.KnownBytes.{Appends}
use Rattle.csv.specs.Reading.{default_config, AreRecords, strip_bom}
use Rattle.csv.specs.declared.parser.State.TheVariants as st
use Rattle.crack_row.specs.declared.Bound.{Bound}
use Rattle.crack_row.specs.declared.command.Command.TheVariants.{Insert, Select}
use Rattle.crack_row.specs.declared.command.Policy.{Policy}
use Rattle.crack_row.specs.declared.command.Reply.{Reply}
use Rattle.crack_row.specs.declared.refusal.Refusal.{Refusal}
use Rattle.crack_row.specs.declared.refusal.Refusal.TheVariants.{WriteFault, ReadFault, BadRecord}
use Rattle.crack_core.specs.Routes.{route, keys_of_part}
use Rattle.crack_session.specs.Calls.{Call, Asked, Calls}
use Rattle.crack_core.specs.Listing.{rows_listed}
use Rattle.crack_csv.specs.declared.TheConstants.{MOST_RECORDS}
use Rattle.crack_csv.specs.declared.load.LoadFault.{LoadFault}
use Rattle.crack_csv.specs.declared.record.NewRow.{NewRow}
use Rattle.crack_csv.specs.Exports.{header_text, record_text, AreUnsent}
use Rattle.crack_csv.specs.Records.{without_header, new_row_of, AreFirstOf}

-- the call in which the partition of the row's key inserts the row under this policy, with this outcome
abbrev pub insertion : List Bound → Policy → NewRow → Result Reply Refusal → Call
insertion splits policy row outcome = Asked (route splits row.key.0) (Insert row.key row.payload) policy outcome

-- Each of these records but a header has a row, `count` rows in total, and the calls are the inserts of these rows, in
-- order, one for each, all answered.
pub record AreInsertions (splits : List Bound) (policy : Policy) (records : List (List (List ℕ))) (count : ℕ) (calls : List Call) : Type 0 where
  pub rows : List NewRow
  pub are : map new_row_of (without_header records) ≡ map Some rows
  pub count_is : length rows ≡ count
  pub each : AllZip (λ (row : NewRow) (call : Call). (reply : Reply) × (call ≡ insertion splits policy row (Ok reply))) rows calls

-- `bytes` are the reader's, `known`; if those aren't known (`None`), `bytes` may be any
abbrev pub AreBytesOf : Option (List ℕ) → List ℕ → Type 0
AreBytesOf known bytes = (all : List ℕ) → known ≡ Some all → bytes ≡ all

-- what a load of these bytes does to a desk if it succeeds: its calls are the inserts of the rows of all records but a
-- header, `count` rows, and no other call; a byte order mark isn't part of the records
abbrev pub IsAskedAll : {D : Type 0} → (D → Call → D → Type 0) → List Bound → Policy → List ℕ → ℕ → D → D → Type 0
IsAskedAll leads splits policy bytes count old new = (records : List (List (List ℕ))) × AreRecords default_config st.StartRecord (strip_bom bytes) records × (calls : List Call) × Calls leads old calls new × AreInsertions splits policy records count calls

-- A load ends with the refusal `e` at the record with this number. If the record isn't a row (`None`), `e` is
-- `BadRecord`, and there is no call. If it has this row, the only call is its insert, which the desk refuses with `e`.
abbrev pub IsRefusedBy : List Bound → Policy → ℕ → Option NewRow → Refusal → List Call → Type 0
IsRefusedBy splits policy number None e calls = (e ≡ BadRecord number) × (calls ≡ [])
IsRefusedBy splits policy number (Some row) e calls = calls ≡ insertion splits policy row (Err e) ∷ []

-- What a load of these bytes that ends with this fault does to a desk: its calls are the inserts of the rows of the
-- first records, all answered. With `ReadFault`, there may be no more. Else the next record, which isn't a header, is
-- refused as `IsRefusedBy` says, with the call that it says, if any.
abbrev pub IsAskedFirst : {D : Type 0} → (D → Call → D → Type 0) → List Bound → Policy → List ℕ → LoadFault → D → D → Type 0
IsAskedFirst leads splits policy bytes fault old new = (records : List (List (List ℕ))) × AreFirstOf (strip_bom bytes) records × (calls : List Call) × (last : List Call) × Calls leads old (calls ++ last) new × AreInsertions splits policy records fault.loaded calls
    × (((last ≡ []) × (fault.refusal ≡ ReadFault)) ⊎ ((fields : List (List ℕ)) × AreFirstOf (strip_bom bytes) (records ++ fields ∷ []) × (without_header (records ++ fields ∷ []) ≡ without_header records ++ fields ∷ []) × IsRefusedBy splits policy (length records + 1) (new_row_of fields) fault.refusal last))

-- the last call that led to this state of a desk was an insert, which the desk refused with `e`
abbrev pub IsLastRefused : {D : Type 0} → (D → Call → D → Type 0) → List Bound → Policy → Refusal → D → Type 0
IsLastRefused {D} leads splits policy e new = (row : NewRow) × (old : D) × leads old (insertion splits policy row (Err e)) new

-- if a load's fault is `ReadFault`, there is a cause: its reader has failed (`failed`), or was read `reads` times,
-- 2^64 - 1 or more; or `MOST_RECORDS` rows were inserted; or the desk's last call is an insert, refused with
-- `ReadFault`
abbrev pub MayBeUnread : {D : Type 0} → (D → Call → D → Type 0) → List Bound → Policy → Bool → ℕ → LoadFault → D → Type 0
MayBeUnread leads splits policy failed reads fault new = fault.refusal ≡ ReadFault → (failed ≡ true) ⊎ ((2 ^ 64 - 1 ≤ reads) ⊎ ((fault.loaded ≡ MOST_RECORDS) ⊎ IsLastRefused leads splits policy ReadFault new))

-- the call in which the partition with this number lists all its rows under this policy, with this outcome
abbrev pub listing : List Bound → Policy → ℕ → Result Reply Refusal → Call
listing splits policy part outcome = Asked part (Select (keys_of_part splits part)) policy outcome

-- the calls that list the rows of the partitions from `part` on, in order, one for each of these replies
abbrev pub listings : List Bound → Policy → ℕ → List Reply → List Call
listings splits policy part [] = []
listings splits policy part (reply ∷ replies) = listing splits policy part (Ok reply) ∷ listings splits policy (part + 1) replies

-- the texts of the header, and of a record for each row that the replies list
abbrev pub lines_in : List Reply → List (List ℕ)
lines_in replies = header_text ∷ map record_text (flat_map rows_listed replies)

-- what an export that succeeds does: in the calls of the desk, each partition lists its rows, in order, `count` rows
-- in total, and the header and the records of these rows are written
abbrev pub IsListed : {D : Type 0} → (D → Call → D → Type 0) → List Bound → Policy → ℕ → D → D → Option (List ℕ) → Option (List ℕ) → Type 0
IsListed leads splits policy count old new out out' = (replies : List Reply) × (length replies ≡ length splits + 1) × Calls leads old (listings splits policy 0 replies) new × (count ≡ length (flat_map rows_listed replies)) × Appends out out' (concat (lines_in replies))

-- what an export that is refused with `e` does: in the calls of the desk, the first partitions list their rows. Then
-- there are three cases. Their lines aren't all written; or all are, and the next partition refuses its list with `e`;
-- or all are, no partition is left, and the output can't be flushed.
abbrev pub IsListedFirst : {D : Type 0} → (D → Call → D → Type 0) → List Bound → Policy → Refusal → D → D → Bool → Bool → Option (List ℕ) → Option (List ℕ) → Type 0
IsListedFirst leads splits policy e old new failed failed' out out' = (replies : List Reply) × (length replies ≤ length splits + 1) × (last : List Call) × Calls leads old (listings splits policy 0 replies ++ last) new
    × (((last ≡ []) × AreUnsent (lines_in replies) e failed' out out')
    ⊎ (((last ≡ listing splits policy (length replies) (Err e) ∷ []) × (failed' ≡ failed) × Appends out out' (concat (lines_in replies)))
    ⊎ ((last ≡ []) × (e ≡ WriteFault) × (failed' ≡ true) × (length replies ≡ length splits + 1) × Appends out out' (concat (lines_in replies)))))
