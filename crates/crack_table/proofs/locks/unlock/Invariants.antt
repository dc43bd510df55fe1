use Rattle.std.proofs.Common.{◌≡◌, ◌+◌, ◌≤◌, vec_len, vec_capacity}
use Rattle.crack_table.proofs.locks.unlock.Given as goal

abbrev pub invariant-locks : goal.invariant-locks
invariant-locks g l = record {
  all : vec_len l.parts + vec_len l.locks ≡ vec_len l.initial.locks;
  room : vec_len l.initial.locks ≤ vec_capacity l.parts;
  same : vec_capacity l.locks ≡ vec_capacity l.initial.locks;
}

abbrev pub decreases-locks : goal.decreases-locks
decreases-locks g l = vec_len l.locks
