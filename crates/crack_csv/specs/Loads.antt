-- The result of `load_csv`. `tables` are the partitions' plain tables before, and `left` those after, if known.
-- `bounds` is what the table's limits mean for a partition, and `splits` are the table's splits.
use Rattle.std.specs.Prelude.{◌≡◌, ℕ, ◌+◌, ◌<◌, ◌⊎◌, List, [], ◌∷◌, ◌++◌, length, map, fold, Option, Some, None, Err, slice_set, slice_index_or}
use Rattle.csv.specs.Reading.{default_config, AreRecords, strip_bom}
use Rattle.csv.specs.declared.parser.State.TheVariants as st
use Rattle.crack_row.specs.declared.Bound.{Bound}
use Rattle.crack_row.specs.declared.command.Command.TheVariants.{Insert}
use Rattle.crack_row.specs.declared.refusal.Refusal.{Refusal}
use Rattle.crack_row.specs.declared.refusal.Refusal.TheVariants.{ReadFault, BadRecord}
use Rattle.crack_plain.specs.Plain.{PlainView}
use Rattle.crack_core.specs.Routes.{route}
use Rattle.crack_core.specs.Steps.{Bounds, IsOutcomeAt, fresh_table, table_after, upkept_by}
use Rattle.crack_csv.specs.declared.TheConstants.{MOST_RECORDS}
use Rattle.crack_csv.specs.declared.load.LoadFault.{LoadFault}
use Rattle.crack_csv.specs.declared.record.NewRow.{NewRow}
use Rattle.crack_csv.specs.Records.{without_header, new_row_of, AreFirstOf}

-- the plain tables once the partition of its key has inserted the row, after a checkpoint if one is due by these
-- bounds
abbrev pub tables_with_row : Bounds → List Bound → List PlainView → NewRow → List PlainView
tables_with_row bounds splits tables row = slice_set tables (route splits row.key.0) (table_after (upkept_by bounds (slice_index_or tables (route splits row.key.0) fresh_table)) (Insert row.key row.payload))

-- `e` is why the record with this number isn't inserted: `BadRecord` if it has no row, else a refusal of its partition
abbrev pub Refuses : Bounds → List Bound → List PlainView → ℕ → Option NewRow → Refusal → Type 0
Refuses bounds splits tables number None e = e ≡ BadRecord number
Refuses bounds splits tables number (Some row) e = IsOutcomeAt bounds splits tables (route splits row.key.0) (Insert row.key row.payload) (Err e)

-- Each of these records except a header has a row, and the rows, `count` in number, are inserted in the same order.
pub record AreInserted (bounds : Bounds) (splits : List Bound) (tables : List PlainView) (records : List (List (List ℕ))) (count : ℕ) (left : Option (List PlainView)) : Type 0 where
  pub rows : List NewRow
  pub are : map new_row_of (without_header records) ≡ map Some rows
  pub count_is : length rows ≡ count
  pub left_is : left ≡ Some (fold (tables_with_row bounds splits) tables rows)

-- the rows of all records of the bytes, without a byte order mark, are inserted: `count` rows
pub record IsLoaded (bounds : Bounds) (splits : List Bound) (tables : List PlainView) (bytes : List ℕ) (count : ℕ) (left : Option (List PlainView)) : Type 0 where
  pub records : List (List (List ℕ))
  pub all : AreRecords default_config st.StartRecord (strip_bom bytes) records
  pub inserted : AreInserted bounds splits tables records count left

-- The record of the bytes that follows `records` isn't a header and is refused, after the rows of `records` were
-- inserted, which gave `tables`: with `ReadFault` if `MOST_RECORDS` rows are inserted, else as `Refuses` says.
pub record IsRefused (bounds : Bounds) (splits : List Bound) (tables : List PlainView) (bytes : List ℕ) (records : List (List (List ℕ))) (fault : LoadFault) : Type 0 where
  pub fields : List (List ℕ)
  pub first : AreFirstOf (strip_bom bytes) (records ++ fields ∷ [])
  pub no_header : without_header (records ++ fields ∷ []) ≡ without_header records ++ fields ∷ []
  pub cause : ((fault.loaded ≡ MOST_RECORDS) × (fault.refusal ≡ ReadFault)) ⊎ ((fault.loaded < MOST_RECORDS) × Refuses bounds splits tables (length records + 1) (new_row_of fields) fault.refusal)

-- the first records of the bytes are inserted, up to this fault: `ReadFault`, or the refusal of the next record
pub record IsCutShort (bounds : Bounds) (splits : List Bound) (tables : List PlainView) (bytes : List ℕ) (fault : LoadFault) (left : Option (List PlainView)) : Type 0 where
  pub records : List (List (List ℕ))
  pub first : AreFirstOf (strip_bom bytes) records
  pub inserted : AreInserted bounds splits tables records fault.loaded left
  pub cause : (fault.refusal ≡ ReadFault) ⊎ IsRefused bounds splits (fold (tables_with_row bounds splits) tables inserted.rows) bytes records fault
