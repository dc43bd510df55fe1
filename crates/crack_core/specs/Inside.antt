-- What private clauses alone cite.
use Rattle.std.specs.Prelude.{◌≡◌, ℕ, ◌+◌, ◌<◌, ℤ, List, length, map, slice_index_or}
use Rattle.crack_row.specs.declared.Bound.{Bound}
use Rattle.crack_row.specs.declared.Row.{Row}
use Rattle.crack_row.specs.declared.limit.Limits.{Limits}
use Rattle.crack_core.specs.Asking.{Inserts}
use Rattle.crack_core.specs.Bulk.{NumberedCall, key_in, payload_in, row_number}
use Rattle.crack_core.specs.Steps.{unless}

-- the rows of a partition, each with the partition's number
abbrev pub of_part : ℕ → List Row → List (ℕ × Row)
of_part part rows = map (λ row. (part, row)) rows

-- the list `new` is as long as `old`, and has the same number at each index below `index`
pub record IsKeptBelow (index : ℕ) (old new : List ℕ) : Type 0 where
  pub long : length new ≡ length old
  pub same : (k : ℕ) → k < index → slice_index_or new k 0 ≡ slice_index_or old k 0

-- the call with index `k` inserts a row whose key and payload are at `k` in the two lists; if it is answered, the row
-- is in the partition `part`, the first number, and its serial is `first`, the second number, plus `k`
abbrev pub InsertsFrom : Limits → List Bound → List ℕ → List ℤ → ℕ → ℕ → NumberedCall
InsertsFrom limits splits keys payloads part first k refusal old new = Inserts limits splits (key_in keys k) (payload_in payloads k) (unless refusal (row_number part (first + k))) old new
