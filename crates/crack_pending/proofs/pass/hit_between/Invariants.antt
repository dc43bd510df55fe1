use Rattle.crack_pending.specs.Inside.{IsMissed}
use Rattle.crack_pending.proofs.pass.hit_between.Given as goal

abbrev pub invariant-spots : goal.invariant-spots
invariant-spots l = IsMissed l.range l.arena.cells l.tags.handles l.stands l.from l.spot
