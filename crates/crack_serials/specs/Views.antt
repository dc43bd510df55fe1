-- The maps as contracts see them.
use Rattle.std.specs.Prelude.{ℕ, List, map}
use Rattle.std.specs.List.{flat_map}
use Rattle.indexmap.specs.IndexMap.{IndexMap, spare}
use Rattle.crack_arena.specs.Arena.{Handle}

module _ {S : Type 0} where
  -- the entries of all maps, map by map
  abbrev pub entries_in_maps : List (IndexMap ℕ Handle S) → List (ℕ × Handle)
  entries_in_maps maps = flat_map (λ (m : IndexMap ℕ Handle S). m.entries) maps

  -- for how many more entries each map has room
  abbrev pub rooms_of : List (IndexMap ℕ Handle S) → List ℕ
  rooms_of maps = map (λ (m : IndexMap ℕ Handle S). spare m) maps
