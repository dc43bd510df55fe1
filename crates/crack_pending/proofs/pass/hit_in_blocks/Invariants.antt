use Rattle.std.proofs.Common.{◌-◌, ◌≤◌, length}
use Rattle.crack_pending.specs.Inside.{IsMissed}
use Rattle.crack_pending.proofs.pass.hit_in_blocks.Given as goal

abbrev pub invariant-far : goal.invariant-far
invariant-far l = record {
  after : l.from ≤ l.spot;
  within : l.spot ≤ length l.tags.handles;
  missed : IsMissed l.range l.arena.cells l.tags.handles l.stands l.from l.spot;
}

abbrev pub decreases-far : goal.decreases-far
decreases-far l = length l.tags.handles - l.spot
