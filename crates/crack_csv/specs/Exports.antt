-- The result of `export_csv`. `tables` are the partitions' plain tables before it, and `left` those after it, if
-- known. Before it, `accepted` is how many commands the desk has accepted, `failed` whether the writer has failed, and
-- `out` what is written, if known; the names with a prime are the same after it.
use Rattle.std.specs.Prelude.{◌≡◌, ℕ, ◌+◌, ◌⊎◌, List, [], ◌∷◌, ◌++◌, length, map, slice_get, Option, Some, Err, codes, decimal, Bool, true}
use Rattle.std.specs.List.{concat, flat_map}
use Rattle.std.specs.Fmt.{signed_decimal}
use Rattle.std.specs.Io.KnownBytes.{Appends}
use Rattle.crack_row.specs.declared.Bound.{Bound}
use Rattle.crack_row.specs.declared.Row.{Row}
use Rattle.crack_row.specs.declared.command.Command.TheVariants.{Select}
use Rattle.crack_row.specs.declared.refusal.Refusal.{Refusal}
use Rattle.crack_row.specs.declared.refusal.Refusal.TheVariants.{WriteFault}
use Rattle.crack_plain.specs.Plain.{PlainView, rows_in}
use Rattle.crack_core.specs.Routes.{keys_of_part}
use Rattle.crack_core.specs.Steps.{Bounds, IsOutcome, upkept_by}
use Rattle.crack_commands.specs.Texts.{AppendsFront}

-- the text of the header, with its line feed
abbrev pub header_text : List ℕ
header_text = codes "key,payload\n"

-- the text of a row's record: its key, a comma, its payload and a line feed
abbrev pub record_text : Row → List ℕ
record_text row = decimal row.key.0 ++ (codes "," ++ (signed_decimal row.payload.0 ++ codes "\n"))

-- the rows of these tables, one table after another and by rising serial, without those whose keys aren't their
-- partition's; the first table is that of `part`
abbrev pub rows_from : List Bound → ℕ → List PlainView → List Row
rows_from splits part [] = []
rows_from splits part (table ∷ tables) = rows_in (keys_of_part splits part) table.state.rows ++ rows_from splits (part + 1) tables

-- the plain table of a partition after it has listed its rows: the rows are unchanged, and one more command is
-- counted, after a checkpoint if one was due by these bounds
abbrev pub after_listing : Bounds → PlainView → PlainView
after_listing bounds table = record { state = table.state; checkpointed = (upkept_by bounds table).checkpointed; since = (upkept_by bounds table).since + 1 }

-- The header and a record for each of the `count` rows are appended to `out`, by rising partition and then serial.
pub record IsExported (bounds : Bounds) (splits : List Bound) (tables : List PlainView) (count : ℕ) (left : Option (List PlainView)) (out out' : Option (List ℕ)) : Type 0 where
  pub count_is : count ≡ length (rows_from splits 0 tables)
  pub left_is : left ≡ Some (map (after_listing bounds) tables)
  pub written : Appends out out' (header_text ++ flat_map record_text (rows_from splits 0 tables))

-- the texts of the header, and of a record for each row of these partitions, the first of which is partition 0
abbrev pub lines_of : List Bound → List PlainView → List (List ℕ)
lines_of splits tables = header_text ∷ map record_text (rows_from splits 0 tables)

-- the refusal `e` is `WriteFault`, the writer has failed, and of these texts only a prefix is written, not all
abbrev pub AreUnsent : List (List ℕ) → Refusal → Bool → Option (List ℕ) → Option (List ℕ) → Type 0
AreUnsent texts e failed' out out' = (e ≡ WriteFault) × (failed' ≡ true) × AppendsFront out out' (concat texts)

-- why an export stops with `e` after the partitions `done`: their lines aren't all written; or all are, and the next
-- partition, the first of `rest`, refuses its list; or all are, `rest` is empty, and the output can't be flushed
abbrev pub IsStopped : Bounds → List Bound → List PlainView → List PlainView → Refusal → Bool → Bool → Option (List ℕ) → Option (List ℕ) → Type 0
IsStopped bounds splits done rest e failed failed' out out' = AreUnsent (lines_of splits done) e failed' out out'
    ⊎ ((table : PlainView) × (slice_get rest 0 ≡ Some table) × IsOutcome bounds (keys_of_part splits (length done)) (Some table) (Select (keys_of_part splits (length done))) (Err e) × (failed' ≡ failed) × Appends out out' (concat (lines_of splits done)))
    ⊎ ((e ≡ WriteFault) × (failed' ≡ true) × (rest ≡ []) × Appends out out' (concat (lines_of splits done)))

-- An export is refused with `e`, for a cause that `IsStopped` gives. The partitions `done` listed their rows, as
-- `after_listing` says, and the other ones, `rest`, aren't changed at all.
pub record IsExportCut (bounds : Bounds) (splits : List Bound) (tables : List PlainView) (e : Refusal) (accepted accepted' : ℕ) (failed failed' : Bool) (left : Option (List PlainView)) (out out' : Option (List ℕ)) : Type 0 where
  pub done : List PlainView
  pub rest : List PlainView
  pub split : tables ≡ done ++ rest
  pub left_is : left ≡ Some (map (after_listing bounds) done ++ rest)
  pub accepted_are : accepted' ≡ accepted + length done
  pub cause : IsStopped bounds splits done rest e failed failed' out out'
