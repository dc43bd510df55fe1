use Rattle.std.proofs.Common.{◌≡◌, vec_len}
use Rattle.crack_service.proofs.input.empty_shares.Given as goal

abbrev pub invariant-workers : goal.invariant-workers
invariant-workers l = vec_len l.shares ≡ l.counter
