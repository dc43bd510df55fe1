use Rattle.std.proofs.Common.{◌≡◌, ◌+◌, ◌<◌, ℕ}
use Rattle.std.specs.Prelude.{slice_index_or}
use Rattle.crack_arena.specs.Memories.{nothing}
use Rattle.crack_pending.specs.Inside.{Lies}
use Rattle.crack_pending.proofs.pass.any_lies.Given as goal

abbrev pub invariant-keys : goal.invariant-keys
invariant-keys l = l.any ≡ 0 → (k : ℕ) → k < l.i → ¬ Lies l.low l.last (slice_index_or l.tags.remembered (l.from + k) nothing).key
