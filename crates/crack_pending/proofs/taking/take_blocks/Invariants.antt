use Rattle.std.proofs.Common.{◌≡◌, ◌≤◌, ◌-◌, length, vec_capacity}
use Rattle.crack_pending.specs.Passed.{IsPassed}
use Rattle.crack_pending.proofs.taking.take_blocks.Given as goal

-- the rows of the range at the spots that were passed are taken, and there is room for more candidates
abbrev pub invariant-batches : goal.invariant-batches
invariant-batches l = record {
  passed : IsPassed l.arena.cells l.range l.tags.handles l.tags.remembered l.initial.stands.items l.stands.items l.codes l.initial.taken.items l.taken.items l.known.items l.spot l.count 0;
  base : l.codes.base ≡ l.initial.codes.base;
  shift : l.codes.shift ≡ l.initial.codes.shift;
  within : l.spot ≤ length l.codes.codes;
  for_candidates : 1024 ≤ vec_capacity l.candidates;
  capacity : vec_capacity l.stands ≡ vec_capacity l.initial.stands;
  room : vec_capacity l.taken ≡ vec_capacity l.initial.taken;
  known_room : vec_capacity l.known ≡ vec_capacity l.initial.known;
}

abbrev pub decreases-batches : goal.decreases-batches
decreases-batches l = length l.codes.codes - l.spot
