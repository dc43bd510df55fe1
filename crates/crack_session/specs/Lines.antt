-- The lines of a session's bytes.
use Rattle.std.specs.List.{onto_first}
use Rattle.std.specs.Prelude.{ℕ, ◌-◌, List, [], ◌∷◌, length, take, slice_index, ◌==◌, if◌then◌else◌}
use Rattle.crack_session.specs.declared.input.TheConstants.{KEPT_BYTES}

-- the lines of bytes, without line feeds: a line feed ends each but the last, which may end with the bytes instead
abbrev pub lines : List ℕ → List (List ℕ)
lines [] = []
lines (b ∷ bs) = if b == 10 then [] ∷ lines bs else onto_first b (lines bs)

-- a line without the one carriage return that may end it
abbrev pub without_return : List ℕ → List ℕ
without_return line = if slice_index line (length line - 1) == 13 then take (length line - 1) line else line

-- all that a session keeps of a line: its first KEPT_BYTES bytes, or all if it is shorter; a longer line is too long
abbrev pub cut_line : List ℕ → List ℕ
cut_line line = take KEPT_BYTES line
