use Rattle.std.proofs.Common.{◌≡◌, ◌+◌, ◌≢◌, ◌<◌, ℕ}
use Rattle.std.specs.Prelude.{slice_index_or}
use Rattle.crack_arena.specs.Memories.{nothing}
use Rattle.crack_arena.specs.Rows.{unknown}
use Rattle.crack_pending.proofs.pass.any_unknown.Given as goal

abbrev pub invariant-keys : goal.invariant-keys
invariant-keys l = l.any ≡ 0 → (k : ℕ) → k < l.i → (slice_index_or l.tags.remembered (l.from + k) nothing).key ≢ unknown
