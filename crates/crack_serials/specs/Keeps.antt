-- What private clauses alone cite.
-- The maps behind the contracts, numbered from 0. An entry is a serial and its handle.
use Rattle.std.specs.Prelude.{◌≡◌, ◌⊎◌, ℕ, ◌<◌, ◌≤◌, List, [], map, length, replicate, slice_index_or}
use Rattle.std.specs.List.{All}
use Rattle.indexmap.specs.IndexMap.{IndexMap}
use Rattle.crack_arena.specs.Arena.{Handle}
use Rattle.crack_serials.specs.Serials.{map_of, shares}
use Rattle.crack_serials.specs.Views.{rooms_of}

module _ {S : Type 0} where
  -- the entries of each map
  abbrev pub map_lists : List (IndexMap ℕ Handle S) → List (List (ℕ × Handle))
  map_lists maps = map (λ (m : IndexMap ℕ Handle S). m.entries) maps

-- all serials in the list with the number `n` belong to the map `n` (`map_of`), for each `n`, counted from 0
abbrev pub AreOwn : List (List (ℕ × Handle)) → Type 0
AreOwn lists = (n : ℕ) → All (λ (e : ℕ × Handle). map_of e.0 ≡ n) (slice_index_or lists n [])

-- there are no maps yet, or all 64, and each has only serials that belong to it
pub record IsSpread {S : Type 0} (maps : List (IndexMap ℕ Handle S)) : Type 0 where
  pub count : (length maps ≡ 0) ⊎ (length maps ≡ 64)
  pub own : AreOwn (map_lists maps)

module _ {S : Type 0} where
  -- `after` are the maps `maps` after a call: each has the same entries as before, and at least as much room for more
  pub record KeepsLists (maps after : List (IndexMap ℕ Handle S)) : Type 0 where
    pub same : map_lists after ≡ map_lists maps
    pub room : (n : ℕ) → slice_index_or (rooms_of maps) n 0 ≤ slice_index_or (rooms_of after) n 0

  -- `maps` are `count` maps, all empty, and each has room for at least 32 entries
  pub record AreMade (count : ℕ) (maps : List (IndexMap ℕ Handle S)) : Type 0 where
    pub empty : map_lists maps ≡ replicate count []
    pub room : (n : ℕ) → n < count → 32 ≤ slice_index_or (rooms_of maps) n 0

-- each of the first `maps` maps has room for those of the `count` serials from `first` on that belong to it; `rooms`
-- are the numbers of further entries for which the maps have room
abbrev pub HaveShares : ℕ → ℕ → ℕ → List ℕ → Type 0
HaveShares maps first count rooms = (n : ℕ) → n < maps → shares n first count ≤ slice_index_or rooms n 0
