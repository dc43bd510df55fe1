use Rattle.std.proofs.Common.{◌≡◌, ◌-◌, ◌≤◌, length}
use Rattle.crack_pending.specs.Keeps.{place_at}
use Rattle.crack_pending.proofs.rows.spot_from.Given as goal

abbrev pub invariant-spots : goal.invariant-spots
invariant-spots l = record {
  counted : l.rows ≡ place_at l.stands l.spot;
  order : l.rows ≤ l.place;
}

abbrev pub decreases-spots : goal.decreases-spots
decreases-spots l = length l.stands - l.spot
