use Rattle.std.proofs.Common.{◌-◌, ◌≤◌, vec_len, vec_capacity}
use Rattle.crack_store.proofs.notes.fill_up_to.Given as goal

abbrev pub invariant-cells : goal.invariant-cells
invariant-cells l = l.cells ≤ vec_capacity l.places

abbrev pub decreases-cells : goal.decreases-cells
decreases-cells l = l.cells - vec_len l.places
