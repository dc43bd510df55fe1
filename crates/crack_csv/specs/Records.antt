-- CSV records, and the rows that they mean.
use Rattle.std.specs.Prelude.{ℕ, Bool, false, List, [], ◌∷◌, drop, slice_index_or, Option, option_map, ◌&&◌, codes, if◌then◌else◌}
use Rattle.std.specs.Str.{bytes_eq}
use Rattle.crack_commands.specs.Grammar.{key_read, payload_read, two_of}
use Rattle.csv.specs.Reading.{default_config, Reached}
use Rattle.csv.specs.declared.parser.State.{State}
use Rattle.csv.specs.declared.parser.State.TheVariants as st
use Rattle.crack_csv.specs.declared.record.NewRow.{NewRow}

-- whether a record is a header: its two fields are `key` and `payload`
abbrev pub is_header : List (List ℕ) → Bool
is_header (key ∷ payload ∷ []) = bytes_eq key (codes "key") && bytes_eq payload (codes "payload")
is_header _ = false

-- these records without the first one if that is a header, else all of them
abbrev pub without_header : List (List (List ℕ)) → List (List (List ℕ))
without_header records = if is_header (slice_index_or records 0 []) then drop 1 records else records

-- the row of a record with exactly two fields, a key and a payload in range; `None` for any other record
abbrev pub new_row_of : List (List ℕ) → Option NewRow
new_row_of fields = option_map (λ n. record { key = n.0; payload = n.1 }) (two_of key_read payload_read fields)

-- these are the first records of a text, in order, as the `csv` crate reads it; more records may follow
abbrev pub AreFirstOf : List ℕ → List (List (List ℕ)) → Type 0
AreFirstOf text records = (state : State) × (rest : List ℕ) × Reached default_config st.StartRecord text records state rest
