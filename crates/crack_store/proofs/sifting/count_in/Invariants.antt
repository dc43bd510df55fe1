use Rattle.std.proofs.Common.{◌≡◌, ◌-◌, ◌≤◌, length, take}
use Rattle.crack_state.specs.Carried.{inside_of}
use Rattle.crack_store.proofs.sifting.count_in.Given as goal

-- this many are counted of those that were passed, and the list is as it was
abbrev pub invariant-rows : goal.invariant-rows
invariant-rows l = record {
  within : l.from ≤ length l.initial.rows.handles;
  counted : l.count ≡ length (inside_of l.arena.cells l.range (take l.from l.initial.rows.handles));
  same : l.rows ≡ l.initial.rows;
}

abbrev pub decreases-rows : goal.decreases-rows
decreases-rows l = length l.initial.rows.handles - l.from
