-- Parsing the lines of a session's bytes.
use Rattle.std.specs.Prelude.{ℕ, Bool, true, false, List, [], ◌∷◌, length, take, Option, None, Some, Ok, Err, ◌==◌, nat_lt, if◌then◌else◌}
use Rattle.std.specs.List.{filter_map, list_all}
use Rattle.crack_row.specs.declared.refusal.Refusal.TheVariants.{BadStatement}
use Rattle.crack_commands.specs.Grammar.{Reading, statement_of, long_of}
use Rattle.crack_commands.specs.declared.statement.Statement.TheVariants.{End}
use Rattle.crack_session.specs.declared.TheConstants.{LINE_BYTES}
use Rattle.crack_session.specs.Lines.{lines, without_return}

-- the meaning of a line, without the carriage return that may end it; `None` if it is blank. The first LINE_BYTES
-- bytes of a longer line decide whether it is a line of an HTTP request or `BadStatement`.
unfoldable pub reading_of : List ℕ → Option Reading
reading_of line = if nat_lt LINE_BYTES (length (without_return line)) then Some (long_of (take LINE_BYTES (without_return line))) else if list_all (λ b. b == 32) (without_return line) then None else Some (statement_of (without_return line))

-- whether a reading ends the session: a `quit`, or a line of an HTTP request
abbrev pub is_last : Reading → Bool
is_last (Ok (End ending)) = true
is_last _ = false

-- the readings up to and including the first that ends the session; all of them if none does
abbrev pub until_last : List Reading → List Reading
until_last [] = []
until_last (r ∷ rs) = if is_last r then r ∷ [] else r ∷ until_last rs

-- the statements of a session's bytes: the readings of their lines, through the first that ends the session
abbrev pub statements : List ℕ → List Reading
statements bytes = until_last (filter_map reading_of (lines bytes))

-- what a line that breaks off is read as if its meaning is this: `BadStatement`, or nothing if it is blank
abbrev pub refused_if_some : Option Reading → List Reading
refused_if_some None = []
refused_if_some (Some reading) = Err BadStatement ∷ []

-- the reading of a line that breaks off, because its sender is gone before its line feed: `BadStatement`, whatever the
-- line means; no reading if it is blank
abbrev pub broken_off : List ℕ → List Reading
broken_off line = refused_if_some (reading_of line)
