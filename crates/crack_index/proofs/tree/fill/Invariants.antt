use Rattle.std.proofs.Common.{◌-◌, ◌≤◌, vec_len, vec_capacity}
use Rattle.crack_index.proofs.tree.fill.Given as goal

abbrev pub invariant-nodes : goal.invariant-nodes
invariant-nodes l = record {
  kept : vec_len l.fn.spare ≤ vec_len l.spare;
  most : vec_len l.spare ≤ l.nodes;
  room : l.nodes ≤ vec_capacity l.spare;
}

abbrev pub decreases-nodes : goal.decreases-nodes
decreases-nodes l = l.nodes - vec_len l.spare
