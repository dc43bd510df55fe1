-- An insert at the beginning of bytes.
use Rattle.std.specs.Prelude.{◌≡◌, ℕ, ◌<◌, ◌≤◌, ◌⊎◌, true, false, List, [], ◌∷◌, ◌++◌, length, take, slice_index, Ok, ◌==◌, nat_le}
use Rattle.std.specs.List.{list_all}
use Rattle.crack_row.specs.declared.Key.{Key}
use Rattle.crack_row.specs.declared.Payload.{Payload}
use Rattle.crack_commands.specs.Grammar.{statement_of}
use Rattle.crack_commands.specs.declared.statement.Statement.TheVariants.{Insert}

-- The first `len` bytes are a line, and a line feed follows them. The line, without the carriage return that may end
-- it, is an `insert` of this key and payload. It isn't blank, has no control character, and has at most 49 bytes.
pub record BeginsWithInsert (bytes : List ℕ) (len : ℕ) (key : Key) (payload : Payload) : Type 0 where
  pub within : len < length bytes
  pub feed : slice_index bytes len ≡ 10
  pub text : List ℕ
  pub line : (take len bytes ≡ text) ⊎ (take len bytes ≡ text ++ 13 ∷ [])
  pub printed : list_all (nat_le 32) text ≡ true
  pub some : list_all (λ b. b == 32) text ≡ false
  pub short : length text ≤ 49
  pub says : statement_of text ≡ Ok (Insert key payload)
