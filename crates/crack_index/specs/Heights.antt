-- How many marks a balanced tree of a given height has: a tree in which the two subtrees of each node differ in height
-- by at most one.
use Rattle.std.specs.Prelude.{ℕ, zero, suc, ◌+◌, ◌*◌}

-- the least number of marks in a balanced tree of this height
abbrev pub least : ℕ → ℕ
least zero = 0
least (suc zero) = 1
least (suc (suc h)) = 1 + least (suc h) + least h

-- one more than the greatest number of marks in any tree of this height
abbrev pub most : ℕ → ℕ
most zero = 1
most (suc h) = 2 * most h
