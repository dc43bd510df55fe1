use Rattle.std.proofs.Common.{◌≡◌, ◌+◌, ◌≤◌, vec_len, vec_capacity}
use Rattle.crack_table.proofs.locks.lock.Given as goal

abbrev pub invariant-parts : goal.invariant-parts
invariant-parts g l = record {
  all : vec_len l.locks + vec_len l.parts ≡ vec_len l.initial.parts;
  room : vec_len l.initial.parts ≤ vec_capacity l.locks;
}

abbrev pub decreases-parts : goal.decreases-parts
decreases-parts g l = vec_len l.parts
