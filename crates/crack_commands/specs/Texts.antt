-- The texts of replies, layouts and refusals, as lists of bytes. Each line ends with a line feed.
use Rattle.std.specs.Prelude.{◌≡◌, ℕ, ◌<◌, ◌==◌, true, List, [], ◌++◌, length, take, filter, Option, Result, OnOk, IfErr, codes, decimal}
use Rattle.std.specs.List.{flat_map, range_with_len}
use Rattle.std.specs.Int.{bit_at}
use Rattle.std.specs.Fmt.{signed_decimal}
use Rattle.std.specs.Io.KnownBytes.{Appends}
use Rattle.crack_row.specs.declared.Row.{Row}
use Rattle.crack_row.specs.declared.Serial.{Serial}
use Rattle.crack_row.specs.declared.command.Policy.{Policy}
use Rattle.crack_row.specs.declared.command.Policy.TheVariants.{Complete, Gradual, Ripple, Auto}
use Rattle.crack_row.specs.declared.command.Reply.{Reply}
use Rattle.crack_row.specs.declared.command.Reply.TheVariants.{Placed, Gone, Changed, NoRow, Counted, Summed, Rows}
use Rattle.crack_row.specs.declared.layout.Layout.{Layout}
use Rattle.crack_row.specs.declared.layout.PieceSize.{PieceSize}
use Rattle.crack_row.specs.declared.refusal.Refusal.{Refusal}
use Rattle.crack_row.specs.declared.watched.Watched.{Watched}
use Rattle.crack_row.specs.declared.refusal.Refusal.TheVariants.{WriteFault, HistoryFull, WorkersMissing, StrangeReceipt, BadRecord}
use Rattle.crack_row.specs.Devices.{device, has_failed}
use Rattle.crack_row.specs.Refusals.{code_of}

-- a line: a name, which ends with a space, and the text of its value
abbrev pub line_text : List ℕ → List ℕ → List ℕ
line_text name value = name ++ value ++ codes "\n"

-- the line `P.S K V` of a row of the partition with this number: the number, and the row's serial, key and payload
abbrev pub row_text : ℕ → Row → List ℕ
row_text part row = decimal part ++ codes "." ++ decimal row.serial.0 ++ codes " " ++ decimal row.key.0 ++ codes " " ++ signed_decimal row.payload.0 ++ codes "\n"

-- the text of a reply of the partition with this number: a line, or, for rows, their count and then a line for each
abbrev pub reply_text : ℕ → Reply → List ℕ
reply_text part (Placed serial) = codes "row " ++ decimal part ++ codes "." ++ decimal serial.0 ++ codes "\n"
reply_text part (Gone row) = codes "gone " ++ decimal row.key.0 ++ codes " " ++ signed_decimal row.payload.0 ++ codes "\n"
reply_text part Changed = codes "changed\n"
reply_text part NoRow = codes "none\n"
reply_text part (Counted count) = line_text (codes "count ") (decimal count)
reply_text part (Summed sum) = line_text (codes "sum ") (signed_decimal sum)
reply_text part (Rows rows) = line_text (codes "rows ") (decimal (length rows)) ++ flat_map (row_text part) rows

-- the line `piece LOW HIGH SIZE` of a piece: its two bounds, and its number of rows
abbrev pub piece_text : PieceSize → List ℕ
piece_text piece = codes "piece " ++ decimal piece.low.0 ++ codes " " ++ decimal piece.high.0 ++ codes " " ++ decimal piece.size ++ codes "\n"

-- the text of the layout of the partition with this number: a line of its numbers, and a line for each piece
abbrev pub layout_text : ℕ → Layout → List ℕ
layout_text part layout = (
    (codes "layout " ++ decimal part ++ codes " rows " ++ decimal layout.rows)
    ++ (codes " column " ++ decimal layout.column ++ codes " out " ++ decimal layout.pending_out)
    ++ (codes " in " ++ decimal layout.pending_in ++ codes " cells " ++ decimal layout.cells)
    ++ (codes " free " ++ decimal layout.free ++ codes " pieces " ++ decimal (length layout.pieces)) ++ codes "\n"
    ) ++ flat_map piece_text layout.pieces

-- the line of a row that was inserted: `row P.S`, with the number of its partition and its serial
abbrev pub placed_text : ℕ → Serial → List ℕ
placed_text part serial = codes "row " ++ decimal part ++ codes "." ++ decimal serial.0 ++ codes "\n"

-- the line of a row that was deleted: `gone K V`, with its key and payload
abbrev pub gone_text : Row → List ℕ
gone_text row = codes "gone " ++ decimal row.key.0 ++ codes " " ++ signed_decimal row.payload.0 ++ codes "\n"

-- two names, each followed by its number in decimal: `first` by `m`, and `second` by `n`
abbrev pub two_fields : List ℕ → ℕ → List ℕ → ℕ → List ℕ
two_fields first m second n = first ++ decimal m ++ second ++ decimal n

-- the first line of the layout of the partition with this number: this number and the layout's, each after its name
abbrev pub layout_head : ℕ → Layout → List ℕ
layout_head part layout =
    two_fields (codes "layout ") part (codes " rows ") layout.rows
    ++ two_fields (codes " column ") layout.column (codes " out ") layout.pending_out
    ++ two_fields (codes " in ") layout.pending_in (codes " cells ") layout.cells
    ++ two_fields (codes " free ") layout.free (codes " pieces ") (length layout.pieces)
    ++ codes "\n"

-- the line that answers a statement `policy` that sets this policy: `policy NAME`
abbrev pub policy_text : Policy → List ℕ
policy_text Complete = codes "policy complete\n"
policy_text Gradual = codes "policy gradual\n"
policy_text Ripple = codes "policy ripple\n"
policy_text Auto = codes "policy auto\n"

-- a space and a number in decimal
abbrev pub field_text : ℕ → List ℕ
field_text number = codes " " ++ decimal number

-- the numbers below `count` whose bits in `bits` are set, in rising order, each after a space
unfoldable pub bits_text : ℕ → ℕ → List ℕ
bits_text bits count = flat_map field_text (filter (λ number. bit_at bits number == 1) (range_with_len 0 count))

-- the numbers that a refusal carries, each after a space: the length of a full history, the numbers of the missing
-- workers, a partition and a position, or a record's number; nothing for other refusals
abbrev pub carried_text : Refusal → List ℕ
carried_text (HistoryFull entries) = field_text entries
carried_text (WorkersMissing missing) = bits_text missing 64
carried_text (StrangeReceipt part position) = field_text part ++ field_text position
carried_text (BadRecord number) = field_text number
carried_text _ = []

-- the line of a refusal: `refused`, its code, and the numbers that it carries (`carried_text`)
abbrev pub refusal_text : Refusal → List ℕ
refusal_text refusal = codes "refused " ++ decimal (code_of refusal) ++ carried_text refusal ++ codes "\n"

-- a prefix of the text, but not all of it, was appended to a writer's contents, which were `old` and are now `new`;
-- nothing is said if `old` is `None`, which means that they aren't known
abbrev pub AppendsFront : Option (List ℕ) → Option (List ℕ) → List ℕ → Type 0
AppendsFront old new text = (n : ℕ) × (n < length text) × Appends old new (take n text)

-- All of a text is appended to the contents of a writer, `old` before and `new` after; or the writer fails, the result
-- is `WriteFault`, and only a proper prefix is appended. `contents` has the contents of a writer, if they are known.
pub record Writes {W : Type 0} (contents : W → Option (List ℕ)) (text : List ℕ) (result : Result (Unit {0}) Refusal) (old new : Watched W) : Type 0 where
  pub ok : OnOk result (Appends (contents (device old)) (contents (device new)) text)
  pub unfailed : OnOk result (has_failed new ≡ has_failed old)
  pub err : IfErr result (λ e. (e ≡ WriteFault) × (has_failed new ≡ true))
  pub front : IfErr result (λ _. AppendsFront (contents (device old)) (contents (device new)) text)
