use Rattle.std.proofs.Common.{◌<◌, length, vec_len}
use Rattle.crack_service.proofs.input.divide.Given as goal

abbrev pub invariant-lines : goal.invariant-lines
invariant-lines l = 0 < vec_len l.shares

abbrev pub decreases-lines : goal.decreases-lines
decreases-lines l = length l.rest
