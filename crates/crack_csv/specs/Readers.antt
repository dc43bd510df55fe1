-- What private clauses alone cite.
-- `known` are the bytes of a reader, if known; `origin` is a desk's state before their load, and `now` the one after.
use Rattle.std.specs.Prelude.{◌≡◌, ℕ, ◌+◌, List, Option, Some}
use Rattle.csv.specs.declared.parser.State.TheVariants as st
use Rattle.crack_row.specs.declared.Bound.{Bound}
use Rattle.crack_row.specs.declared.command.Policy.{Policy}
use Rattle.crack_plain.specs.Plain.{PlainView}
use Rattle.crack_core.specs.Steps.{Bounds}
use Rattle.crack_session.specs.Calls.{Call}
use Rattle.crack_csv.specs.declared.load.LoadFault.{LoadFault}
use Rattle.crack_csv.specs.Asked.{AreBytesOf, IsAskedFirst}
use Rattle.crack_csv.specs.Begun.{kept_of_record, none_begun}
use Rattle.crack_csv.specs.Loaders.{HasEnded, LoaderState}
use Rattle.crack_csv.specs.Loads.{IsCutShort}

-- a loader that has taken no bytes, and is to insert rows under this policy
abbrev pub begun_by : Policy → LoaderState
begun_by policy = record { policy = policy; head = 0; kept = kept_of_record (none_begun st.StartRecord); number = 0; loaded = 0 }

module _ {D : Type 0} (bounds : D → Bounds) (splits : D → List Bound) (tables : D → Option (List PlainView)) (accepted : D → ℕ) (leads : D → Call → D → Type 0) (policy : Policy) (origin : D) (known : Option (List ℕ)) where
  -- A desk has loaded all records of some bytes, those of the reader if they are known: `count` rows.
  pub record HasReadAll (count : ℕ) (now : D) : Type 0 where
    pub bytes : List ℕ
    pub bytes_are : AreBytesOf known bytes
    pub ended : HasEnded bounds splits tables accepted leads policy origin bytes count now

  -- A desk has loaded the first records of some bytes, those of the reader if known, and then the load had this fault.
  pub record HasReadFirst (fault : LoadFault) (now : D) : Type 0 where
    pub bytes : List ℕ
    pub bytes_are : AreBytesOf known bytes
    pub asked : IsAskedFirst leads (splits origin) policy bytes fault origin now
    pub if_known : (rows : List PlainView) → tables origin ≡ Some rows → IsCutShort (bounds origin) (splits origin) rows bytes fault (tables now)
    pub accepted_are : accepted now ≡ accepted origin + fault.loaded
    pub splits_are : splits now ≡ splits origin
    pub bounds_are : bounds now ≡ bounds origin
