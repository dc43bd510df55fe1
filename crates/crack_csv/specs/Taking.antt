-- What private clauses alone cite.
use Rattle.std.specs.Prelude.{◌≡◌, ℕ, zero, suc, ◌+◌, Bool, List, [], ◌∷◌, ◌++◌, take, min, Option, None, ◌==◌, ◌&&◌, if◌then◌else◌}
use Rattle.csv.specs.Machine.{step}
use Rattle.csv.specs.Reading.{default_config}
use Rattle.csv.specs.declared.parser.Action.{Action}
use Rattle.csv.specs.declared.parser.Action.TheVariants as act
use Rattle.csv.specs.declared.parser.State.{State}
use Rattle.crack_row.specs.declared.Bound.{Bound}
use Rattle.crack_plain.specs.Plain.{PlainView}
use Rattle.crack_core.specs.Steps.{Bounds}
use Rattle.crack_session.specs.Calls.{Call}
use Rattle.crack_csv.specs.declared.begun.TheConstants.{FIELD_BYTES}
use Rattle.crack_csv.specs.declared.begun.Effect.{Effect}
use Rattle.crack_csv.specs.declared.begun.Effect.TheVariants as ef
use Rattle.crack_csv.specs.declared.load.LoadFault.{LoadFault}
use Rattle.crack_csv.specs.declared.record.NewRow.{NewRow}
use Rattle.crack_csv.specs.Begun.{Begun, KeptRecord, kept_of_record}
use Rattle.crack_csv.specs.Loaders.{AreLoaded, HasStopped, LoaderState}
use Rattle.crack_csv.specs.Records.{is_header, new_row_of}

-- a record with these fields, which has ended and left the reader in this state
abbrev pub ended_record : State → List (List ℕ) → Begun
ended_record state fields = record { state = state; fields = fields; field = [] }

-- what is kept of a record after the byte `c` with this action: `Copy` adds the byte to the current field, if that is
-- the first or second and has room; the end of a field or of the record is counted, up to 3; `Skip` changes nothing
abbrev pub kept_by : Action → ℕ → KeptRecord → KeptRecord
kept_by act.Skip c k = k
kept_by act.Copy c k = record k { first = if k.whole == 0 then take FIELD_BYTES (k.first ++ c ∷ []) else k.first; second = if k.whole == 1 then take FIELD_BYTES (k.second ++ c ∷ []) else k.second }
kept_by act.EndField c k = record k { whole = min 3 (k.whole + 1) }
kept_by act.EndRecord c k = record k { whole = min 3 (k.whole + 1) }

-- what is kept of a record after the byte `c` is taken, if `k` was kept before
abbrev pub kept_with : KeptRecord → ℕ → KeptRecord
kept_with k c = kept_by (step default_config k.state c).1 c (record k { state = (step default_config k.state c).0 })

-- the action of the `csv` crate's reader that an effect stands for
abbrev pub action_of : Effect → Action
action_of ef.Skip = act.Skip
action_of ef.Copy = act.Copy
action_of ef.EndField = act.EndField
action_of ef.EndRecord = act.EndRecord

-- whether exactly two fields have ended, and what is kept of them is a header's fields
abbrev pub kept_is_header : KeptRecord → Bool
kept_is_header k = (k.whole == 2) && is_header (k.first ∷ k.second ∷ [])

-- the row of the kept fields, if exactly two fields have ended, a key and a payload in range; else `None`
abbrev pub kept_row : KeptRecord → Option NewRow
kept_row k = if k.whole == 2 then new_row_of (k.first ∷ k.second ∷ []) else None

-- the count of a byte order mark's bytes after one more byte: the first number is the count before, and the second
-- number is the byte. The mark's first two bytes, in order, make it 1 and 2; any other byte makes it 3 for good.
abbrev pub head_after : ℕ → ℕ → ℕ
head_after zero c = if c == 0xEF then 1 else 3
head_after (suc zero) c = if c == 0xBB then 2 else 3
head_after (suc (suc zero)) c = 3
head_after (suc (suc (suc n))) c = suc (suc (suc n))

-- The loader `old` loads the ended record that it keeps and becomes `new`, and the desk gets from `desk` to `desk'`:
-- whatever records `AreLoaded` held for before, it holds then for these with this one added. A header adds no row.
abbrev pub TakesRecord : {D : Type 0} → (D → Bounds) → (D → List Bound) → (D → Option (List PlainView)) → (D → ℕ) → (D → Call → D → Type 0) → LoaderState → D → D → LoaderState → Type 0
TakesRecord {D} bounds splits tables accepted leads old desk desk' new = (origin : D) (records : List (List (List ℕ))) (state : State) (fields : List (List ℕ)) → AreLoaded bounds splits tables accepted leads old.policy origin records old.number old.loaded desk
    → old.kept ≡ kept_of_record (ended_record state fields) → AreLoaded bounds splits tables accepted leads old.policy origin (records ++ fields ∷ []) new.number new.loaded desk'

-- The loader `old` ends with this fault at the ended record that it keeps, and the desk gets from `desk` to `desk'`:
-- whatever records `AreLoaded` held for before, `HasStopped` holds for these with this one added.
abbrev pub StopsAtRecord : {D : Type 0} → (D → Bounds) → (D → List Bound) → (D → Option (List PlainView)) → (D → ℕ) → (D → Call → D → Type 0) → LoaderState → D → D → LoadFault → Type 0
StopsAtRecord {D} bounds splits tables accepted leads old desk desk' fault = (origin : D) (records : List (List (List ℕ))) (state : State) (fields : List (List ℕ)) → AreLoaded bounds splits tables accepted leads old.policy origin records old.number old.loaded desk
    → old.kept ≡ kept_of_record (ended_record state fields) → HasStopped bounds splits tables accepted leads old.policy origin (records ++ fields ∷ []) fault desk'
