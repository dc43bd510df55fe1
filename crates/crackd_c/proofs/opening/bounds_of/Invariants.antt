use Rattle.std.specs.Prelude.{◌≡◌, ◌≤◌, length, take, vec_len, vec_capacity}
use Rattle.crackd_c.specs.Calls.{bounds_at}
use Rattle.crackd_c.proofs.opening.bounds_of.Given as goal

abbrev pub invariant-splits : goal.invariant-splits
invariant-splits l = record {
  done : l.bounds.items ≡ bounds_at (take l.split-index l.splits);
  count : vec_len l.bounds ≡ l.split-index;
  room : length l.splits ≤ vec_capacity l.bounds;
}
