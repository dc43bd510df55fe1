-- The keys and payloads of rows in cells. A handle reads the row in its cell, unless the cell was freed since.
use Rattle.std.specs.Prelude.{ℕ, ℤ, pos, List, map, Option, Some, None}
use Rattle.crack_row.specs.Rows.{amount}
use Rattle.crack_row.specs.declared.TheConstants.{GREATEST_KEY}
use Rattle.crack_row.specs.declared.Payload.{Payload}
use Rattle.crack_row.specs.declared.Row.{Row}
use Rattle.crack_arena.specs.Arena.{Cell, Handle, read}

-- the key of a row, or 0 if there is none
abbrev pub key_of_row : Option Row → ℕ
key_of_row None = 0
key_of_row (Some r) = r.key.0

-- the key of the row that the handle reads, or 0 if it reads none
abbrev pub key_at : List (Cell Row) → Handle → ℕ
key_at cells h = key_of_row (read cells h)

-- the payload 0
abbrev pub no_payload : Payload
no_payload = record { 0 = pos 0 }

-- the payload of a row, or 0 if there is none
abbrev pub payload_of_row : Option Row → Payload
payload_of_row None = no_payload
payload_of_row (Some r) = r.payload

-- the payload of the row that the handle reads, or 0 if it reads none
abbrev pub payload_at : List (Cell Row) → Handle → Payload
payload_at cells h = payload_of_row (read cells h)

-- what a row adds to a sum: its payload, or 0 if there is no row
abbrev pub amount_of_row : Option Row → ℤ
amount_of_row None = pos 0
amount_of_row (Some r) = amount r.payload

-- what the row that the handle reads adds to a sum, or 0 if it reads none
abbrev pub amount_at : List (Cell Row) → Handle → ℤ
amount_at cells h = amount_of_row (read cells h)

-- the keys of the rows that the handles read, in order; 0 for a handle that reads none
abbrev pub keys_at : List (Cell Row) → List Handle → List ℕ
keys_at cells handles = map (key_at cells) handles

-- the key that is stored if none is remembered: the greatest key, so a row with that key counts as unknown
abbrev pub unknown : ℕ
unknown = GREATEST_KEY
