-- How contracts see a list of pending rows. Its handles are at spots, indices into its vectors; a removed row leaves a
-- hole at its spot.
use Rattle.std.specs.Prelude.{ℕ, ◌-◌, ◌^◌, Bool, cond, List, [], ◌∷◌, min}

-- the elements at the spots that have a row, in order; the first list says which spots have one
abbrev pub kept : {X : Type 0} → List Bool → List X → List X
kept (b ∷ bs) (x ∷ xs) = cond b (x ∷ kept bs xs) (kept bs xs)
kept _ _ = []

-- how many spots after the first `spots` need no memory: as many as both capacities allow, and 2^32 in total
abbrev pub spot_room : ℕ → ℕ → ℕ → ℕ
spot_room spots tag_capacity stand_capacity = min (2 ^ 32) (min tag_capacity stand_capacity) - spots
