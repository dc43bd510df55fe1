use Rattle.std.proofs.Common.{◌≡◌, ◌<◌, ℕ}
use Rattle.std.specs.Prelude.{slice_index}
use Rattle.crack_pending.specs.Inside.{Lies}
use Rattle.crack_pending.proofs.code_pass.any_of_many_lies.Given as goal

abbrev pub invariant-codes : goal.invariant-codes
invariant-codes l = l.any ≡ 0 → (k : ℕ) → k < l.i → ¬ Lies l.low l.last (slice_index l.codes k)
