use Rattle.std.proofs.Common.{◌≡◌, ◌<◌, ℕ, length, get_or, vec_capacity}
use Rattle.crack_row.specs.Ranges.{IsIn}
use Rattle.crack_arena.specs.Arena.{no_handle}
use Rattle.crack_arena.specs.Rows.{key_at}
use Rattle.crack_pending.specs.Keeps.{HasRow}
use Rattle.crack_pending.specs.Passed.{IsPassed}
use Rattle.crack_pending.proofs.taking.take_candidates.Given as goal

-- those of the candidates that were passed and are in the range are taken, and the others are unchanged
abbrev pub invariant-candidates : goal.invariant-candidates
invariant-candidates l = record {
  passed : IsPassed l.arena.cells l.range l.tags.handles l.tags.remembered l.initial.stands.items l.stands.items l.codes l.initial.taken.items l.taken.items l.known.items l.from l.count 0;
  done : (j : ℕ) → j < l.k → HasRow l.stands.items (get_or l.candidates j 0) → ¬ IsIn l.range (key_at l.arena.cells (get_or l.tags.handles (get_or l.candidates j 0) no_handle));
  base : l.codes.base ≡ l.initial.codes.base;
  shift : l.codes.shift ≡ l.initial.codes.shift;
  long : length l.codes.codes ≡ length l.initial.codes.codes;
  capacity : vec_capacity l.stands ≡ vec_capacity l.initial.stands;
  room : vec_capacity l.taken ≡ vec_capacity l.initial.taken;
  known_room : vec_capacity l.known ≡ vec_capacity l.initial.known;
}
