-- What contracts see of a map from serials to handles: 64 maps, to one of which each serial belongs (`map_of`).
use Rattle.std.specs.Prelude.{◌≡◌, ℕ, zero, suc, ◌+◌, ◌/◌, ◌%◌, ◌≤◌, nat_lt, nat_le, nat_eq, if◌then◌else◌, List, ◌∷◌, ◌++◌, Option, Some, slice_get, slice_index_or}
use Rattle.std.specs.List.{filter}
use Rattle.std.specs.Map.{lookup}
use Rattle.crack_arena.specs.Arena.{Handle}
use Rattle.crack_serials.specs.declared.serials.Lead.{Lead}

-- the entries, each a serial and its handle, map by map, and for how many more entries each map has room
pub record Serials : Type 0 where
  pub entries : List (ℕ × Handle)
  pub room : List ℕ

-- the number of a serial's map: 0 for the serials 0 to 31, 1 for the next 32, and so on; after 63 comes 0
abbrev pub map_of : ℕ → ℕ
map_of serial = serial / 32 % 64

-- the handle of a serial in these entries; none if no entry has the serial
abbrev pub handle_of : List (ℕ × Handle) → ℕ → Option Handle
handle_of entries serial = lookup (nat_eq serial) entries

-- `entries` are the entries before a change, and `after` those after it: the serial then has the handle `o`, or no
-- entry if `o` is none. Every other serial has the same handle as before, or no entry if it had none
abbrev pub Maps : ℕ → Option Handle → List (ℕ × Handle) → List (ℕ × Handle) → Type 0
Maps serial o entries after = (n : ℕ) → handle_of after n ≡ (if nat_eq serial n then o else handle_of entries n)

-- those of these entries that are in the map to which this serial belongs
abbrev pub sharing : ℕ → List (ℕ × Handle) → List (ℕ × Handle)
sharing serial entries = filter (λ (e : ℕ × Handle). nat_eq (map_of e.0) (map_of serial)) entries

-- the entries, by rising map number, with one more, of this serial and this handle: the last one of its map
abbrev pub with_serial : ℕ → Handle → List (ℕ × Handle) → List (ℕ × Handle)
with_serial serial h entries =
    filter (λ (e : ℕ × Handle). nat_le (map_of e.0) (map_of serial)) entries ++ (serial, h) ∷ filter (λ (e : ℕ × Handle). nat_lt (map_of serial) (map_of e.0)) entries

-- the lead, the result of a look-up, holds in these entries: in the map of its serial, the entry at the index `at` has
-- that serial and the lead's handle
abbrev pub IsLead : Lead → List (ℕ × Handle) → Type 0
IsLead lead entries = slice_get (sharing lead.serial.0 entries) lead.at ≡ Some (lead.serial.0, lead.handle)

-- for how many more entries the map with this number has room; 0 if there is no such map
abbrev pub room_in : Serials → ℕ → ℕ
room_in s map = slice_index_or s.room map 0

-- for how many more entries the map of a serial has room
abbrev pub room_for : Serials → ℕ → ℕ
room_for s serial = room_in s (map_of serial)

-- each map has at least as much room after a call, in `t`, as before it, in `s`
abbrev pub KeepsRoom : Serials → Serials → Type 0
KeepsRoom s t = (map : ℕ) → room_in s map ≤ room_in t map

-- as `KeepsRoom`, except that the map of this serial may have room for one entry less in `t` than in `s`
abbrev pub UsesRoom : ℕ → Serials → Serials → Type 0
UsesRoom serial s t = (map : ℕ) → room_in s map ≤ room_in t map + (if nat_eq (map_of serial) map then 1 else 0)

-- how many of the `count` serials from `first` on belong to the map with the number `map`
abbrev pub shares : ℕ → ℕ → ℕ → ℕ
shares map first zero = 0
shares map first (suc count) = (if nat_eq (map_of first) map then 1 else 0) + shares map (suc first) count

-- each map has room for those of the `count` serials from `first` on that belong to it
abbrev pub HasRoom : Serials → ℕ → ℕ → Type 0
HasRoom s first count = (map : ℕ) → shares map first count ≤ room_in s map
