-- The statistics of partitions.
use Rattle.std.specs.Prelude.{◌≡◌, ℕ, ◌+◌, ◌-◌, ◌^◌, min, length}
use Rattle.crack_plain.specs.Plain.{PlainView, accepted_of}
use Rattle.crack_plain.specs.declared.statistics.Statistics.{Statistics}

-- the sum of two numbers, or the greatest number of 64 bits if the sum is above it
abbrev pub capped_sum : ℕ → ℕ → ℕ
capped_sum m n = min (m + n) (2 ^ 64 - 1)

-- the statistics of no partition: each number is 0
abbrev pub no_statistics : Statistics
no_statistics = record { rows = 0; pending_insertions = 0; pending_deletions = 0; pieces = 0; cells = 0; free_cells = 0; commands_accepted = 0; commands_since_checkpoint = 0 }

-- the statistics of two sets of partitions together: each number is the capped sum of the two
abbrev pub together : Statistics → Statistics → Statistics
together s t = record {
  rows = capped_sum s.rows t.rows;
  pending_insertions = capped_sum s.pending_insertions t.pending_insertions;
  pending_deletions = capped_sum s.pending_deletions t.pending_deletions;
  pieces = capped_sum s.pieces t.pieces;
  cells = capped_sum s.cells t.cells;
  free_cells = capped_sum s.free_cells t.free_cells;
  commands_accepted = capped_sum s.commands_accepted t.commands_accepted;
  commands_since_checkpoint = capped_sum s.commands_since_checkpoint t.commands_since_checkpoint;
}

-- the number of rows and both numbers of commands in the statistics are those of this plain table; the other numbers,
-- which depend on the partition's column, may be any
pub record AreNumbersOf (table : PlainView) (s : Statistics) : Type 0 where
  pub rows : s.rows ≡ length table.state.rows
  pub accepted : s.commands_accepted ≡ accepted_of table
  pub since : s.commands_since_checkpoint ≡ table.since

-- the statistics of a plain table: its rows are a column of one piece, each row has a cell, and nothing is pending
-- or free
abbrev pub plain_statistics : PlainView → Statistics
plain_statistics table = record { rows = length table.state.rows; pending_insertions = 0; pending_deletions = 0; pieces = 1; cells = length table.state.rows; free_cells = 0; commands_accepted = accepted_of table; commands_since_checkpoint = table.since }
