use Rattle.std.proofs.Common.{ℕ, ◌<◌, map}
use Rattle.crack_arena.specs.Arena.{StandsAt}
use Rattle.crack_column.specs.Inside.{label_handle}
use Rattle.crack_column.proofs.tag.find.Given as goal

abbrev pub invariant-tags : goal.invariant-tags
invariant-tags l = (k : ℕ) → k < l.i → ¬ StandsAt (map label_handle l.labels) k l.handle
