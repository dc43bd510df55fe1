-- What private clauses alone cite.
use Rattle.std.specs.Prelude.{◌≡◌, ℕ, ◌+◌, ◌-◌, ◌*◌, ◌<◌, ◌≤◌, ◌⊎◌, ℤ, int_le, fold, Bool, true, false, List, [], ◌∷◌, ◌++◌, length, take, drop, Option, Some, None, Result, Ok, Err, nat_le, nat_lt, slice_index, not, ◌==◌, ◌||◌, ◌&&◌, slice_index_or, codes, decimal, if◌then◌else◌}
use Rattle.std.specs.Option.{option_map, option_zip}
use Rattle.std.specs.List.{list_all}
use Rattle.std.specs.Int.{bit_at}
use Rattle.std.specs.Str.{bytes_eq}
use Rattle.crack_row.specs.declared.Key.{Key}
use Rattle.crack_row.specs.declared.Payload.{Payload}
use Rattle.crack_row.specs.Ranges.{Range}
use Rattle.crack_row.specs.declared.TheConstants.{GREATEST_KEY, LEAST_PAYLOAD, GREATEST_PAYLOAD, GREATEST_BOUND}
use Rattle.crack_row.specs.declared.RowNo.{RowNo}
use Rattle.crack_row.specs.declared.refusal.Refusal.{Refusal}
use Rattle.crack_row.specs.declared.refusal.Refusal.TheVariants.{BadStatement, BadRange}
use Rattle.crack_commands.specs.declared.words.TheConstants.{GREATEST_PART}
use Rattle.crack_commands.specs.declared.statement.Statement.TheVariants.{Insert, Delete, Update, Layout as AsksLayout, Checkpoint, Watch, WatchPart, Policy, Ping, End}
use Rattle.crack_commands.specs.declared.statement.ClosingLine.TheVariants.{Quit}
use Rattle.crack_commands.specs.Grammar.{Reading, words, is_digit, number_of, whole_number_of, number_up_to, row_number_of, key_read, payload_read, two_of, only_word, policy_named, made}
use Rattle.crack_commands.specs.Texts.{field_text}

-- whether the bytes have a space
abbrev pub has_space : List ℕ → Bool
has_space [] = false
has_space (b ∷ bs) = b == 32 || has_space bs

-- whether these bytes, which have no space, are a word: there is at least one byte
abbrev pub is_word : List ℕ → Bool
is_word word = not (bytes_eq word [])

-- whether a word begins with a minus sign
abbrev pub has_sign : List ℕ → Bool
has_sign word = slice_index word 0 == 45

-- `word` is the first word of `bytes`, or empty if they have none; `rest` has the words after it.
pub record IsFirstWord (bytes word rest : List ℕ) : Type 0 where
  pub some : is_word word ≡ true → words bytes ≡ word ∷ words rest
  pub none : is_word word ≡ false → (words bytes ≡ []) × (words rest ≡ [])

-- `number` is the value of the first word of `bytes` as a number, `None` if it isn't one; `rest` has the words after it
abbrev pub IsFirstNumber : List ℕ → Option ℕ → List ℕ → Type 0
IsFirstNumber bytes number rest = (word : List ℕ) × IsFirstWord bytes word rest × (number ≡ number_of word)

-- `number` is the value of the first word of `bytes` as an integer, or `None`; `rest` has the words after this word
abbrev pub IsFirstWholeNumber : List ℕ → Option ℤ → List ℕ → Type 0
IsFirstWholeNumber bytes number rest = (word : List ℕ) × IsFirstWord bytes word rest × (number ≡ whole_number_of word)

-- the key and the payload with these numbers; `None` if one of the numbers isn't in the range of keys, or of payloads
abbrev pub row_from : ℕ → ℤ → Option (Key × Payload)
row_from key payload = option_zip (option_map (λ n. record { 0 = n }) (if nat_le key GREATEST_KEY then Some key else None)) (if int_le LEAST_PAYLOAD payload && int_le payload GREATEST_PAYLOAD then Some (record { 0 = payload }) else None)

-- the number whose digits are those of `n`, followed by those of the word
abbrev pub value_on : ℕ → List ℕ → ℕ
value_on n word = fold (λ n b. n * 10 + (b - 48)) n word

-- The bytes begin with 1 to 20 digits, and then a space follows, or nothing. `number` is the value of the digits, and
-- `rest` are the bytes after them.
pub record BeginsWithDigits (bytes : List ℕ) (number : ℕ) (rest : List ℕ) : Type 0 where
  pub count : ℕ
  pub few : (0 < count) × (count ≤ 20) × (count ≤ length bytes)
  pub digits : list_all is_digit (take count bytes) ≡ true
  pub value : number ≡ value_on 0 (take count bytes)
  pub ends : count < length bytes → slice_index bytes count ≡ 32
  pub behind : rest ≡ drop count bytes

-- The first `count` bytes, at most 21, are the integer `number`, and the byte `stop` follows them. None of the `count`
-- bytes is a space or a control character.
pub record BeginsWithWhole (bytes : List ℕ) (stop : ℕ) (number : ℤ) (count : ℕ) : Type 0 where
  pub few : (0 < count) × (count ≤ 21) × (count < length bytes)
  pub stops : slice_index bytes count ≡ stop
  pub printed : list_all (nat_lt 32) (take count bytes) ≡ true
  pub says : whole_number_of (take count bytes) ≡ Some number

-- The bytes begin with the integer `number`, of at most 21 bytes, and then the line ends: with a line feed, or with a
-- carriage return and a line feed. `len` bytes are before the line feed.
pub record EndsLine (bytes : List ℕ) (number : ℤ) (len : ℕ) : Type 0 where
  pub count : ℕ
  pub few : (0 < count) × (count ≤ 21) × (len < length bytes)
  pub ends : (len ≡ count) ⊎ ((len ≡ count + 1) × (slice_index bytes count ≡ 13))
  pub feed : slice_index bytes len ≡ 10
  pub printed : list_all (nat_lt 32) (take count bytes) ≡ true
  pub says : whole_number_of (take count bytes) ≡ Some number

-- whether the bit of `bits` with this number, from 0, is set
abbrev pub has_bit : ℕ → ℕ → Bool
has_bit bits number = bit_at bits number == 1

-- a space and `number`, if the bit of `bits` with this number is set; else nothing
abbrev pub bit_text : ℕ → ℕ → List ℕ
bit_text bits number = if has_bit bits number then field_text number else []

-- the line of a refusal: `refused`, its code, and the text of the numbers that it carries, each after a space
abbrev pub refused_text : ℕ → List ℕ → List ℕ
refused_text code carried = codes "refused " ++ decimal code ++ carried ++ codes "\n"

-- the meaning of the words after `insert`: an insert if they are `K V`, a key and a payload, else `BadStatement`
abbrev pub insert_of : List (List ℕ) → Reading
insert_of arguments = made (λ n. Insert n.0 n.1) (two_of key_read payload_read arguments)

-- the meaning of the words after `delete`: a delete if they are `P.S`, one row number, else `BadStatement`
abbrev pub delete_of : List (List ℕ) → Reading
delete_of arguments = made Delete (row_number_of (only_word arguments))

-- an update of this row to this key and payload, or `BadStatement` if the row or the pair is `None`
abbrev pub update_from : Option RowNo → Option (Key × Payload) → Reading
update_from row pair = made (λ u. Update u.0 u.1.0 u.1.1) (option_zip row pair)

-- the meaning of the words after `update`: an update if they are a row number, a key and a payload, else `BadStatement`
abbrev pub update_of : List (List ℕ) → Reading
update_of arguments = made (λ u. Update u.0 u.1.0 u.1.1) (option_zip (row_number_of (slice_index_or arguments 0 [])) (two_of key_read payload_read (drop 1 arguments)))

-- the range from the first number to the second. `BadRange` if the first is greater, or the second is above
-- GREATEST_BOUND; `BadStatement` if there is no pair of numbers.
abbrev pub range_from : Option (ℕ × ℕ) → Result Range Refusal
range_from (Some (low, high)) = if nat_le low high && nat_le high GREATEST_BOUND then Ok (record { low = low; high = high }) else Err BadRange
range_from None = Err BadStatement

-- the meaning of the words after `layout`: the layout of the partition `P` if the only word is `P`, a number up to
-- GREATEST_PART, else `BadStatement`
abbrev pub layout_of : List (List ℕ) → Reading
layout_of arguments = made AsksLayout (number_up_to GREATEST_PART (only_word arguments))

-- the meaning of the words after `checkpoint`: a checkpoint of the partition `P` if the only word is `P`, a number up
-- to GREATEST_PART, else `BadStatement`
abbrev pub checkpoint_of : List (List ℕ) → Reading
checkpoint_of arguments = made Checkpoint (number_up_to GREATEST_PART (only_word arguments))

-- the meaning of the words after `stats`: the statistics of the table if there are none, or of the partition `P` if the
-- only word is `P`, a number up to GREATEST_PART, else `BadStatement`
abbrev pub watch_of : List (List ℕ) → Reading
watch_of arguments = if length arguments == 0 then Ok Watch else made WatchPart (number_up_to GREATEST_PART (only_word arguments))

-- the meaning of the words after `policy`: that policy for the session if they are the name of one, else `BadStatement`
abbrev pub policy_of : List (List ℕ) → Reading
policy_of arguments = made Policy (policy_named (only_word arguments))

-- the meaning of the words after `ping`: `Ping` if there are none, else `BadStatement`
abbrev pub ping_of : List (List ℕ) → Reading
ping_of arguments = if length arguments == 0 then Ok Ping else Err BadStatement

-- the meaning of the words after `quit`: the end of the session if there are none, else `BadStatement`
abbrev pub quit_of : List (List ℕ) → Reading
quit_of arguments = if length arguments == 0 then Ok (End Quit) else Err BadStatement
