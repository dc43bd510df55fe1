-- What private clauses alone cite.
-- How many serials belong to a map.
use Rattle.std.specs.Prelude.{ℕ, ◌+◌, ◌-◌, ◌*◌, ◌/◌, ◌%◌, min}

-- how many serials below `end` belong to the map with the number `map`, which is below 64
abbrev pub below : ℕ → ℕ → ℕ
below map end = 32 * (end / 2048) + min 32 (end % 2048 - 32 * map)
