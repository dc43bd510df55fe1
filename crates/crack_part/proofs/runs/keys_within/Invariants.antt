use Rattle.std.specs.Prelude.{ℕ, ◌<◌, slice_index_or}
use Rattle.crack_row.specs.Ranges.{IsIn}
use Rattle.crack_part.proofs.runs.keys_within.Given as goal

abbrev pub invariant-keys : goal.invariant-keys
invariant-keys l = (k : ℕ) → k < l.i → IsIn l.range (slice_index_or l.keys k 0)
