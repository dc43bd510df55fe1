-- What a loader has taken, and its calls of a desk. `bounds`, `splits`, `tables`, `accepted` and `leads` are those of
-- the trait `Desk`; `origin` is the desk's state before the load, and `now` the one after the calls.
use Rattle.std.specs.Prelude.{◌≡◌, ◌⊎◌, ℕ, zero, suc, ◌+◌, ◌<◌, List, [], ◌∷◌, ◌++◌, length, Option, Some}
use Rattle.csv.specs.Reading.{strip_bom}
use Rattle.csv.specs.declared.parser.State.TheVariants as st
use Rattle.crack_row.specs.declared.Bound.{Bound}
use Rattle.crack_plain.specs.Plain.{PlainView}
use Rattle.crack_core.specs.Steps.{Bounds}
use Rattle.crack_session.specs.Calls.{Call, Calls}
use Rattle.crack_row.specs.declared.command.Policy.{Policy}
use Rattle.crack_row.specs.declared.refusal.Refusal.TheVariants.{ReadFault}
use Rattle.crack_csv.specs.declared.TheConstants.{MOST_RECORDS}
use Rattle.crack_csv.specs.declared.load.LoadFault.{LoadFault}
use Rattle.crack_csv.specs.Asked.{AreInsertions, IsAskedAll, IsRefusedBy}
use Rattle.crack_csv.specs.Begun.{Begun, KeptRecord, none_begun, after_bytes, finished_records, finished_by_end, kept_of_record}
use Rattle.crack_csv.specs.Loads.{AreInserted, IsLoaded, Refuses}
use Rattle.crack_csv.specs.Records.{without_header, new_row_of}

-- the records that these bytes, the first of a text, finish; a byte order mark at their start isn't part of the text
abbrev pub records_in : List ℕ → List (List (List ℕ))
records_in bytes = finished_records (none_begun st.StartRecord) (strip_bom bytes)

-- the unfinished record after these bytes, the first of a text, of which a byte order mark at their start isn't part
abbrev pub begun_in : List ℕ → Begun
begun_in bytes = after_bytes (none_begun st.StartRecord) (strip_bom bytes)

-- all records of these bytes, where the end of the input may finish the last one
abbrev pub all_records_in : List ℕ → List (List (List ℕ))
all_records_in bytes = records_in bytes ++ finished_by_end (begun_in bytes)

-- what contracts see of a loader: its policy, how many bytes of a byte order mark it took (3 if no more can follow),
-- what is kept of the unfinished record, how many records it took, and how many rows it inserted
pub record LoaderState : Type 0 where
  pub policy : Policy
  pub head : ℕ
  pub kept : KeptRecord
  pub number : ℕ
  pub loaded : ℕ

-- what a loader's count for a byte order mark says of the bytes that it has taken: 0, 1 or 2, that they are exactly as
-- many of the mark's first ones; 3 or more, that no byte that follows is part of a mark
abbrev pub IsHead : ℕ → List ℕ → Type 0
IsHead zero bytes = bytes ≡ []
IsHead (suc zero) bytes = bytes ≡ 0xEF ∷ []
IsHead (suc (suc zero)) bytes = bytes ≡ 0xEF ∷ 0xBB ∷ []
IsHead (suc (suc (suc n))) bytes = (more : List ℕ) → strip_bom (bytes ++ more) ≡ strip_bom bytes ++ more

module _ {D : Type 0} (bounds : D → Bounds) (splits : D → List Bound) (tables : D → Option (List PlainView)) (accepted : D → ℕ) (leads : D → Call → D → Type 0) (policy : Policy) (origin : D) where
  -- Since `origin` the desk has executed the inserts of the rows of these `number` records, `loaded` rows, in order,
  -- each once and under this policy, and no other call. If the desk's rows were known, these rows are added to them.
  pub record AreLoaded (records : List (List (List ℕ))) (number loaded : ℕ) (now : D) : Type 0 where
    pub count : length records ≡ number
    pub calls : List Call
    pub were : Calls leads origin calls now
    pub are : AreInsertions (splits origin) policy records loaded calls
    pub if_known : (known : List PlainView) → tables origin ≡ Some known → AreInserted (bounds origin) (splits origin) known records loaded (tables now)
    pub accepted_are : accepted now ≡ accepted origin + loaded
    pub splits_are : splits now ≡ splits origin
    pub bounds_are : bounds now ≡ bounds origin

  -- The desk has loaded the records that these bytes finish; the loader `s` keeps the rest as `kept_of_record` says.
  pub record HasLoaded (bytes : List ℕ) (s : LoaderState) (now : D) : Type 0 where
    pub loaded : AreLoaded (records_in bytes) s.number s.loaded now
    pub policy_is : s.policy ≡ policy
    pub kept_is : s.kept ≡ kept_of_record (begun_in bytes)
    pub head_is : IsHead s.head bytes

  -- The desk has loaded all of these records but the last, which isn't a header and is refused. The fault has the
  -- cause: `MOST_RECORDS` rows are inserted already, the record isn't a row, or the desk refuses its insert.
  pub record HasStopped (records : List (List (List ℕ))) (fault : LoadFault) (now : D) : Type 0 where
    pub first : List (List (List ℕ))
    pub fields : List (List ℕ)
    pub split : records ≡ first ++ fields ∷ []
    pub no_header : without_header records ≡ without_header first ++ fields ∷ []
    pub between : D
    pub loaded : AreLoaded first (length first) fault.loaded between
    pub last : List Call
    pub was : Calls leads between last now
    pub cause : ((last ≡ []) × (fault.loaded ≡ MOST_RECORDS) × (fault.refusal ≡ ReadFault))
        ⊎ ((fault.loaded < MOST_RECORDS) × IsRefusedBy (splits origin) policy (length first + 1) (new_row_of fields) fault.refusal last)
    pub if_known : (known : List PlainView) → tables between ≡ Some known → (tables now ≡ Some known)
        × (((fault.loaded ≡ MOST_RECORDS) × (fault.refusal ≡ ReadFault)) ⊎ ((fault.loaded < MOST_RECORDS) × Refuses (bounds origin) (splits origin) known (length first + 1) (new_row_of fields) fault.refusal))
    pub accepted_are : accepted now ≡ accepted origin + fault.loaded
    pub splits_are : splits now ≡ splits origin
    pub bounds_are : bounds now ≡ bounds origin

  -- The desk has loaded all records of these bytes, as the `csv` crate reads them: `count` rows.
  pub record HasEnded (bytes : List ℕ) (count : ℕ) (now : D) : Type 0 where
    pub asked : IsAskedAll leads (splits origin) policy bytes count origin now
    pub if_known : (known : List PlainView) → tables origin ≡ Some known → IsLoaded (bounds origin) (splits origin) known bytes count (tables now)
    pub accepted_are : accepted now ≡ accepted origin + count
    pub splits_are : splits now ≡ splits origin
    pub bounds_are : bounds now ≡ bounds origin

-- The loader `old` takes `bytes` and becomes `new`, and the desk gets from `desk` to `desk'`: whatever bytes
-- `HasLoaded` held for before, it holds then for these with `bytes` added.
abbrev pub Takes : {D : Type 0} → (D → Bounds) → (D → List Bound) → (D → Option (List PlainView)) → (D → ℕ) → (D → Call → D → Type 0) → LoaderState → List ℕ → D → D → LoaderState → Type 0
Takes {D} bounds splits tables accepted leads old bytes desk desk' new = (origin : D) (before : List ℕ) → HasLoaded bounds splits tables accepted leads old.policy origin before old desk → HasLoaded bounds splits tables accepted leads old.policy origin (before ++ bytes) new desk'

-- The loader `old` takes `bytes` and ends with this fault, and the desk gets from `desk` to `desk'`: whatever bytes
-- `HasLoaded` held for before, the last record that these with `bytes` added finish is refused (`HasStopped`).
abbrev pub StopsBehind : {D : Type 0} → (D → Bounds) → (D → List Bound) → (D → Option (List PlainView)) → (D → ℕ) → (D → Call → D → Type 0) → LoaderState → List ℕ → D → D → LoadFault → Type 0
StopsBehind {D} bounds splits tables accepted leads old bytes desk desk' fault = (origin : D) (before : List ℕ) → HasLoaded bounds splits tables accepted leads old.policy origin before old desk → HasStopped bounds splits tables accepted leads old.policy origin (records_in (before ++ bytes)) fault desk'

-- The loader `old` takes the end of the input, and the desk gets from `desk` to `desk'`: whatever bytes `HasLoaded`
-- held for before, the rows of all their records are inserted then, `count` rows (`HasEnded`).
abbrev pub EndsWith : {D : Type 0} → (D → Bounds) → (D → List Bound) → (D → Option (List PlainView)) → (D → ℕ) → (D → Call → D → Type 0) → LoaderState → D → D → ℕ → Type 0
EndsWith {D} bounds splits tables accepted leads old desk desk' count = (origin : D) (before : List ℕ) → HasLoaded bounds splits tables accepted leads old.policy origin before old desk → HasEnded bounds splits tables accepted leads old.policy origin before count desk'

-- The loader `old` takes the end of the input, and the desk gets from `desk` to `desk'`: whatever bytes `HasLoaded`
-- held for before, the last of all their records is refused with this fault (`HasStopped`).
abbrev pub StopsAtEnd : {D : Type 0} → (D → Bounds) → (D → List Bound) → (D → Option (List PlainView)) → (D → ℕ) → (D → Call → D → Type 0) → LoaderState → D → D → LoadFault → Type 0
StopsAtEnd {D} bounds splits tables accepted leads old desk desk' fault = (origin : D) (before : List ℕ) → HasLoaded bounds splits tables accepted leads old.policy origin before old desk → HasStopped bounds splits tables accepted leads old.policy origin (all_records_in before) fault desk'
