use Rattle.std.proofs.Common.{◌≡◌, ◌-◌, ◌≤◌, length}
use Rattle.crack_pending.specs.Keeps.{place_at}
use Rattle.crack_pending.proofs.rows.skip_blocks.Given as goal

abbrev pub invariant-far : goal.invariant-far
invariant-far l = record {
  counted : l.rows ≡ place_at l.stands l.spot;
  order : l.rows ≤ l.place;
}

abbrev pub decreases-far : goal.decreases-far
decreases-far l = length l.stands - l.spot
