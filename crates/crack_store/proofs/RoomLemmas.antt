-- Room for a run of rows, of which some were added.
use Rattle.std.proofs.Common.{◌≡◌, ℕ, suc, arith}
use Rattle.crack_store.specs.declared.inside.Inside.{Inside}
use Rattle.crack_store.specs.Rooms.{HasRooms}

pub HasRooms-same : (first first' count count' : ℕ) (p : Inside) → first ≡ first' → count ≡ count' → HasRooms first count p → HasRooms first' count' p
HasRooms-same first first' count count' p same as_many room = rw (same, as_many) at room

-- with room for some rows there is room for the first
pub HasRooms-first : (first count : ℕ) (p : Inside) → HasRooms first (suc count) p → HasRooms first 1 p
HasRooms-first first count p room = record {
  pending = omega (arith, room.pending);
  cells = omega (arith, room.cells);
  serials = λ map. omega (arith, room.serials map);
  places = omega (arith, room.places);
}
