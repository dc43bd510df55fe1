use Rattle.std.proofs.Common.{◌≡◌, ◌+◌, ◌-◌, ◌≤◌, ◌++◌, ℕ, length, vec_len, vec_capacity}
use Rattle.crack_arena.specs.Arena.{times}
use Rattle.crack_arena.specs.Rows.{unknown}
use Rattle.crack_arena.specs.Memories.{Remembers}
use Rattle.crack_pending.specs.Codes.{AreCoded}
use Rattle.crack_pending.specs.Inside.{IsMissed}
use Rattle.crack_pending.specs.Keeps.{place_at, HasRow, keys_of}
use Rattle.crack_pending.specs.Pending.{rows_inside, rows_outside}
use Rattle.crack_pending.specs.Spots.{kept}
use Rattle.crack_pending.proofs.taking.take_hits.Given as goal

-- those of the range that were passed are taken, and the others are unchanged
abbrev pub invariant-hits : goal.invariant-hits
invariant-hits l = record {
  within : l.start ≤ length l.tags.handles;
  missed : IsMissed l.range l.arena.cells l.tags.handles l.stands.items 0 l.start;
  taken : l.taken.items ++ rows_inside l.arena.cells l.range (kept l.stands.items l.tags.handles) ≡ l.initial.taken.items ++ rows_inside l.arena.cells l.range (kept l.initial.stands.items l.tags.handles);
  outside : rows_outside l.arena.cells l.range (kept l.stands.items l.tags.handles) ≡ rows_outside l.arena.cells l.range (kept l.initial.stands.items l.tags.handles);
  gone : Remembers l.arena.cells l.taken.items l.known.items;
  known : Remembers l.arena.cells (kept l.stands.items l.tags.handles) (kept l.stands.items l.tags.remembered);
  unknowns : l.left.unknowns ≡ times unknown (keys_of (kept l.stands.items l.tags.remembered));
  coded : AreCoded l.tags.remembered l.stands.items l.codes;
  stood : (spot : ℕ) → HasRow l.stands.items spot → HasRow l.initial.stands.items spot;
  long : length l.stands.items ≡ length l.initial.stands.items;
  capacity : vec_capacity l.stands ≡ vec_capacity l.initial.stands;
  counted : place_at l.stands.items (length l.stands.items) + l.left.taken ≡ place_at l.initial.stands.items (length l.initial.stands.items) + l.initial.left.taken;
  room : vec_len l.taken + length (rows_inside l.arena.cells l.range (kept l.stands.items l.tags.handles)) ≤ vec_capacity l.taken;
  known_room : vec_len l.known + length (rows_inside l.arena.cells l.range (kept l.stands.items l.tags.handles)) ≤ vec_capacity l.known;
}

abbrev pub decreases-hits : goal.decreases-hits
decreases-hits l = length l.tags.handles - l.start
