use Rattle.std.proofs.Common.{◌<◌, ◌^◌, ◌-◌, All}
use Rattle.crack_store_tests.proofs.sorted_index.climb_once.Given as goal

-- each bound can be moved up
abbrev pub invariant-bounds : goal.invariant-bounds
invariant-bounds g l = All (λ m. m.position < 2 ^ 64 - 1) l.index.marks
