-- The records of a text that the `csv` crate's reader takes byte by byte. A record is a list of fields, each of bytes.
use Rattle.std.specs.Prelude.{ℕ, Bool, List, [], ◌∷◌, ◌++◌, take, length, min, if◌then◌else◌}
use Rattle.csv.specs.Machine.{step, is_end, ends_at_end, fields_after, field_after}
use Rattle.csv.specs.Reading.{default_config}
use Rattle.csv.specs.declared.parser.State.{State}
use Rattle.csv.specs.declared.parser.State.TheVariants as st
use Rattle.crack_csv.specs.declared.begun.TheConstants.{FIELD_BYTES}
use Rattle.crack_csv.specs.declared.begun.Place.{Place}
use Rattle.crack_csv.specs.declared.begun.Place.TheVariants as pl

-- an unfinished record: the reader's state before the next byte, the ended fields, and the bytes of the current field
pub record Begun : Type 0 where
  pub state : State
  pub fields : List (List ℕ)
  pub field : List ℕ

-- no record is begun, and the reader is in this state
abbrev pub none_begun : State → Begun
none_begun state = record { state = state; fields = []; field = [] }

-- whether this byte, taken next, ends the unfinished record
abbrev pub ends : Begun → ℕ → Bool
ends b c = is_end (step default_config b.state c).1

-- the unfinished record with this byte added; if the byte ends the record, the last field is among the ended ones
abbrev pub with_byte : Begun → ℕ → Begun
with_byte b c = record { state = (step default_config b.state c).0; fields = fields_after (step default_config b.state c).1 b.fields b.field; field = field_after (step default_config b.state c).1 c b.field }

-- the unfinished record after this byte is taken: none is begun if the byte ends it
abbrev pub after_byte : Begun → ℕ → Begun
after_byte b c = if ends b c then none_begun (with_byte b c).state else with_byte b c

-- the record that this byte, taken next, finishes, as a list of one; an empty list if it finishes none
abbrev pub finished_by : Begun → ℕ → List (List (List ℕ))
finished_by b c = if ends b c then (with_byte b c).fields ∷ [] else []

-- the unfinished record after these bytes are taken, if `b` is the one before them
unfoldable pub after_bytes : Begun → List ℕ → Begun
after_bytes b [] = b
after_bytes b (c ∷ cs) = after_bytes (after_byte b c) cs

-- the records that these bytes finish, in order, if `b` is the unfinished record before them
unfoldable pub finished_records : Begun → List ℕ → List (List (List ℕ))
finished_records b [] = []
finished_records b (c ∷ cs) = finished_by b c ++ finished_records (after_byte b c) cs

-- the record that the end of the input finishes, as a list of one; an empty list if it finishes none
abbrev pub finished_by_end : Begun → List (List (List ℕ))
finished_by_end b = if ends_at_end b.state then (b.fields ++ b.field ∷ []) ∷ [] else []

-- what is kept of an unfinished record: the reader's state, how many fields have ended, where 3 stands for any greater
-- number too, and the first bytes of the first two fields, at most `FIELD_BYTES` of each
pub record KeptRecord : Type 0 where
  pub state : State
  pub whole : ℕ
  pub first : List ℕ
  pub second : List ℕ

-- the first field of a record with these ended fields and this current field
abbrev pub first_in : List (List ℕ) → List ℕ → List ℕ
first_in [] field = field
first_in (f ∷ fields) field = f

-- the second field of a record with these ended fields and this current field, or no bytes if it isn't begun
abbrev pub second_in : List (List ℕ) → List ℕ → List ℕ
second_in [] field = []
second_in (f ∷ []) field = field
second_in (f ∷ g ∷ fields) field = g

-- what is kept of this unfinished record, with at most `FIELD_BYTES` bytes of each of its first two fields
abbrev pub kept_of_record : Begun → KeptRecord
kept_of_record b = record { state = b.state; whole = min 3 (length b.fields); first = take FIELD_BYTES (first_in b.fields b.field); second = take FIELD_BYTES (second_in b.fields b.field) }

-- the state of the `csv` crate's reader that a place stands for
abbrev pub reader_state : Place → State
reader_state pl.StartRecord = st.StartRecord
reader_state pl.StartField = st.StartField
reader_state pl.InField = st.InField
reader_state pl.InQuoted = st.InQuoted
reader_state pl.AfterQuote = st.AfterQuote
reader_state pl.AfterReturn = st.AfterCr
