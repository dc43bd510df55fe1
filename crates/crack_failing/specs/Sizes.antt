-- What private clauses alone cite.
-- The number of bytes that a reader returns at a time.
use Rattle.std.specs.Prelude.{ℕ, ◌-◌, ◌^◌, ◌%◌, max, List, [], ◌∷◌, length, slice_index}

-- the greatest number of bytes that the next read may return after `reads` earlier reads: the sizes are used in turn,
-- a size of 0 as 1; without sizes it is the greatest number of 64 bits
abbrev pub most_at : List ℕ → ℕ → ℕ
most_at [] reads = 2 ^ 64 - 1
most_at (size ∷ sizes) reads = max (slice_index (size ∷ sizes) (reads % length (size ∷ sizes))) 1
