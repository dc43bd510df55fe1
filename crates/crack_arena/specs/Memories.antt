-- What is remembered of rows beside their handles, so that the rows needn't be read from their cells. A row is unknown
-- if the key that is remembered of it is `unknown`; then it must be read.
use Rattle.std.specs.Prelude.{◌≡◌, ℕ, ◌<◌, ◌⊎◌, List, length, slice_index_or}
use Rattle.crack_row.specs.declared.Payload.{Payload}
use Rattle.crack_row.specs.declared.Row.{Row}
use Rattle.crack_arena.specs.Arena.{Cell, Handle}
use Rattle.crack_arena.specs.Rows.{key_at, no_payload, payload_at, unknown}

-- what is remembered of a row: its key and payload; for an unknown row the key is `unknown`, the payload any
pub record Memory : Type 0 where
  pub key : ℕ
  pub payload : Payload

-- what is remembered of an unknown row: the key `unknown` and the payload 0
abbrev pub nothing : Memory
nothing = record { key = unknown; payload = no_payload }

-- the key and payload of the row that the handle reads, both 0 if it reads none
abbrev pub memory_at : List (Cell Row) → Handle → Memory
memory_at cells h = record { key = key_at cells h; payload = payload_at cells h }

-- the memory agrees with the handle's row: its key is `unknown`, or its key and payload are those of the row that the
-- handle reads in these cells, both 0 if the handle reads none
abbrev pub Agrees : List (Cell Row) → Handle → Memory → Type 0
Agrees cells h m = (m.key ≡ unknown) ⊎ (m ≡ memory_at cells h)

-- there are as many memories as handles, and each agrees with the row of the handle at its place (`Agrees`)
pub record Remembers (cells : List (Cell Row)) (handles : List Handle) (remembered : List Memory) : Type 0 where
  pub beside : length remembered ≡ length handles
  pub right : (k : ℕ) (d : Handle) → k < length handles → Agrees cells (slice_index_or handles k d) (slice_index_or remembered k nothing)
