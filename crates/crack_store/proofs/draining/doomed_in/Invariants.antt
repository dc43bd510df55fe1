use Rattle.std.proofs.Common.{◌≡◌, ◌-◌, ◌≤◌, length, map, take}
use Rattle.crack_state.specs.Carried.{inside_of}
use Rattle.crack_store.specs.Drainings.{doomed_of}
use Rattle.crack_store.proofs.draining.doomed_in.Given as goal

-- those that were passed are listed
abbrev pub invariant-rows : goal.invariant-rows
invariant-rows l = record {
  within : l.from ≤ length l.rows.handles;
  listed : l.doomed.items ≡ map (doomed_of l.arena.cells) (inside_of l.arena.cells l.range (take l.from l.rows.handles));
}

abbrev pub decreases-rows : goal.decreases-rows
decreases-rows l = length l.rows.handles - l.from
