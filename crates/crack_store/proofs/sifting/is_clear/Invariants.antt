use Rattle.std.proofs.Common.{◌<◌, ℕ, get_or}
use Rattle.crack_arena.specs.Arena.{no_handle}
use Rattle.crack_store.specs.Inside.{lists_of}
use Rattle.crack_store.specs.Sieves.{IsClear}
use Rattle.crack_store.proofs.sifting.is_clear.Given as goal

-- those that were looked for aren't in the way
abbrev pub invariant-doomed : goal.invariant-doomed
invariant-doomed l = (k : ℕ) → k < l.place → IsClear l.count (lists_of l.inside) (get_or l.inside.pending_out.handles k no_handle)
