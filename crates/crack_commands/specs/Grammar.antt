-- The grammar of statements. Lines and words are lists of bytes, and a NUMBER is a word that `number_of` reads.
use Rattle.std.specs.Prelude.{ℕ, ◌+◌, ◌-◌, ◌*◌, ℤ, pos, neg_ℤ, int_le, Bool, List, [], ◌∷◌, length, drop, fold, filter, Option, None, Some, Result, Ok, Err, ◌==◌, ◌&&◌, ◌||◌, not, nat_lt, nat_le, if◌then◌else◌, codes, slice_index, slice_index_or}
use Rattle.std.specs.Str.{bytes_eq}
use Rattle.std.specs.List.{list_all, slice_split, before_first, after_first}
use Rattle.std.specs.Option.{option_zip, option_and_then, option_map, option_map_or, ok_or}
use Rattle.crack_row.specs.Ranges.{Range}
use Rattle.crack_row.specs.declared.Key.{Key}
use Rattle.crack_row.specs.declared.Payload.{Payload}
use Rattle.crack_row.specs.declared.TheConstants.{GREATEST_KEY, LEAST_PAYLOAD, GREATEST_PAYLOAD, GREATEST_BOUND}
use Rattle.crack_row.specs.declared.RowNo.{RowNo}
use Rattle.crack_row.specs.declared.command.Policy.{Policy as Merging}
use Rattle.crack_row.specs.declared.command.Policy.TheVariants.{Complete, Gradual, Ripple, Auto}
use Rattle.crack_row.specs.declared.refusal.Refusal.{Refusal}
use Rattle.crack_row.specs.declared.refusal.Refusal.TheVariants.{BadStatement, BadRange}
use Rattle.crack_commands.specs.declared.words.TheConstants.{MOST_DIGITS, GREATEST_PART, GREATEST_SERIAL}
use Rattle.crack_commands.specs.declared.statement.Statement.{Statement}
use Rattle.crack_commands.specs.declared.statement.Statement.TheVariants.{Insert, Delete, Update, Count, Sum, Select, Layout, Checkpoint, Watch, WatchPart, Policy, Ping, End}
use Rattle.crack_commands.specs.declared.statement.ClosingLine.TheVariants.{Quit, Http}

-- the meaning of a line: a statement, or why it isn't one
abbrev pub Reading : Type 0
Reading = Result Statement Refusal

-- the words of a line: the nonempty parts between spaces
abbrev pub words : List ℕ → List (List ℕ)
words line = filter (λ word. not (bytes_eq word [])) (slice_split (λ b. b == 32) line)

-- whether a byte is a decimal digit
abbrev pub is_digit : ℕ → Bool
is_digit b = nat_le 48 b && nat_lt b 58

-- the value of a NUMBER, a word of 1 to MOST_DIGITS decimal digits, leading zeros included; `None` for other words
abbrev pub number_of : List ℕ → Option ℕ
number_of word = if not (bytes_eq word []) && nat_le (length word) MOST_DIGITS && list_all is_digit word then Some (fold (λ n b. n * 10 + (b - 48)) 0 word) else None

-- the value of an integer, a NUMBER with or without a minus sign directly before it; `None` for other words
abbrev pub whole_number_of : List ℕ → Option ℤ
whole_number_of word = if slice_index word 0 == 45 then option_map (λ n. neg_ℤ (pos n)) (number_of (drop 1 word)) else option_map pos (number_of word)

-- the values of a list of exactly two words, the first read by `one` and the second by `other`; `None` if there are
-- more or fewer words, or one of the two functions returns `None`
abbrev pub two_of : {X Y : Type 0} → (List ℕ → Option X) → (List ℕ → Option Y) → List (List ℕ) → Option (X × Y)
two_of one other (first ∷ second ∷ []) = option_zip (one first) (other second)
two_of one other _ = None

-- the value of a NUMBER that is at most `greatest`; `None` for other words
abbrev pub number_up_to : ℕ → List ℕ → Option ℕ
number_up_to greatest word = option_and_then (λ n. if nat_le n greatest then Some n else None) (number_of word)

-- the key of a NUMBER that is at most GREATEST_KEY; `None` for other words
abbrev pub key_read : List ℕ → Option Key
key_read word = option_map (λ n. record { 0 = n }) (number_up_to GREATEST_KEY word)

-- the payload of an integer from LEAST_PAYLOAD to GREATEST_PAYLOAD; `None` for other words
abbrev pub payload_read : List ℕ → Option Payload
payload_read word = option_and_then (λ z. if int_le LEAST_PAYLOAD z && int_le z GREATEST_PAYLOAD then Some (record { 0 = z }) else None) (whole_number_of word)

-- the row number `P.S`, two NUMBERs, P up to GREATEST_PART and S up to GREATEST_SERIAL; `None` for other words
abbrev pub row_number_of : List ℕ → Option RowNo
row_number_of word =
    let part = number_up_to GREATEST_PART (before_first (λ b. b == 46) word) in
    let serial = number_up_to GREATEST_SERIAL (after_first (λ b. b == 46) word) in
    option_map (λ n. record { part = n.0; serial = record { 0 = n.1 } }) (option_zip part serial)

-- the word of a list of exactly one word; for other lists no bytes, which are neither a number nor a name
abbrev pub only_word : List (List ℕ) → List ℕ
only_word (word ∷ []) = word
only_word _ = []

-- the policy with this name, or `None` if there is none
abbrev pub policy_named : List ℕ → Option Merging
policy_named name =
    if bytes_eq name (codes "complete") then Some Complete else if bytes_eq name (codes "gradual") then Some Gradual else if bytes_eq name (codes "ripple") then Some Ripple else if bytes_eq name (codes "auto") then Some Auto else None

-- the statement that the function makes of the parsed arguments; `BadStatement` if these are `None`, so not parsed
abbrev pub made : {A : Type 0} → (A → Statement) → Option A → Reading
made statement arguments = ok_or (option_map statement arguments) BadStatement

-- the statement that the function makes of the range from the first number to the second. `BadRange` if the first is
-- greater, or the second is above GREATEST_BOUND; `BadStatement` if the numbers are `None`.
abbrev pub over : (Range → Statement) → Option (ℕ × ℕ) → Reading
over statement ends = option_map_or (λ e. if nat_le e.0 e.1 && nat_le e.1 GREATEST_BOUND then Ok (statement (record { low = e.0; high = e.1 })) else Err BadRange) ends (Err BadStatement)

-- whether a word is one of the nine HTTP methods GET, POST, HEAD, PUT, DELETE, OPTIONS, CONNECT, TRACE and PATCH
abbrev pub is_method : List ℕ → Bool
is_method word =
    bytes_eq word (codes "GET") || bytes_eq word (codes "POST") || bytes_eq word (codes "HEAD") || bytes_eq word (codes "PUT") || bytes_eq word (codes "DELETE")
    || bytes_eq word (codes "OPTIONS") || bytes_eq word (codes "CONNECT") || bytes_eq word (codes "TRACE") || bytes_eq word (codes "PATCH")

-- whether the byte is a letter, a digit or a hyphen
abbrev pub is_name_byte : ℕ → Bool
is_name_byte b = is_digit b || nat_le 65 b && nat_lt b 91 || nat_le 97 b && nat_lt b 123 || b == 45

-- whether a word begins as an HTTP header does: with a name, one or more letters, digits and hyphens, and a colon
abbrev pub has_header : List ℕ → Bool
has_header word =
    let name = before_first (λ b. b == 58) word in
    not (bytes_eq name []) && nat_lt (length name) (length word) && list_all is_name_byte name

-- whether a line with this first word belongs to an HTTP request: the word is one of nine methods in capitals
-- (`is_method`), or begins with any header's name and a colon (`has_header`)
abbrev pub is_http : List ℕ → Bool
is_http word = is_method word || has_header word

-- the meaning of a line whose first word names no statement: `End Http` for a line of HTTP, else `BadStatement`
abbrev pub unnamed : List ℕ → Reading
unnamed word = if is_http word then Ok (End Http) else Err BadStatement

-- the meaning of a line with the first word `name` and the further words `arguments`: the statement that `name` names,
-- with these arguments; a refusal if they are wrong for it; as `unnamed` says if it names none
abbrev pub statement_named : List ℕ → List (List ℕ) → Reading
statement_named name arguments =
    if bytes_eq name (codes "insert") then made (λ n. Insert n.0 n.1) (two_of key_read payload_read arguments)
    else if bytes_eq name (codes "delete") then made Delete (row_number_of (only_word arguments))
    else if bytes_eq name (codes "update") then made (λ u. Update u.0 u.1.0 u.1.1) (option_zip (row_number_of (slice_index_or arguments 0 [])) (two_of key_read payload_read (drop 1 arguments)))
    else if bytes_eq name (codes "count") then over Count (two_of number_of number_of arguments)
    else if bytes_eq name (codes "sum") then over Sum (two_of number_of number_of arguments)
    else if bytes_eq name (codes "select") then over Select (two_of number_of number_of arguments)
    else if bytes_eq name (codes "layout") then made Layout (number_up_to GREATEST_PART (only_word arguments))
    else if bytes_eq name (codes "checkpoint") then made Checkpoint (number_up_to GREATEST_PART (only_word arguments))
    else if bytes_eq name (codes "stats") then if length arguments == 0 then Ok Watch else made WatchPart (number_up_to GREATEST_PART (only_word arguments))
    else if bytes_eq name (codes "policy") then made Policy (policy_named (only_word arguments))
    else if bytes_eq name (codes "ping") then if length arguments == 0 then Ok Ping else Err BadStatement
    else if bytes_eq name (codes "quit") then if length arguments == 0 then Ok (End Quit) else Err BadStatement
    else unnamed name

-- the meaning of a line: its first word names a statement, the others are its arguments; `BadStatement` without words
unfoldable pub statement_of : List ℕ → Reading
statement_of line = statement_named (slice_index_or (words line) 0 []) (drop 1 (words line))

-- the meaning of a line that is too long to be a statement, by its first bytes: `End Http` if by their first word the
-- line belongs to an HTTP request, else `BadStatement`
unfoldable pub long_of : List ℕ → Reading
long_of front = unnamed (slice_index_or (words front) 0 [])
