use Rattle.std.proofs.Common.{◌≡◌, ◌+◌, ◌-◌, ◌≤◌}
use Rattle.crack_pending.specs.Keeps.{place_at}
use Rattle.crack_pending.proofs.rows.rows_between.Given as goal

abbrev pub invariant-far : goal.invariant-far
invariant-far l = record {
  after : l.from ≤ l.spot;
  within : l.spot ≤ l.to;
  counted : place_at l.stands l.spot ≡ place_at l.stands l.from + l.rows;
}

abbrev pub decreases-far : goal.decreases-far
decreases-far l = l.to - l.spot
