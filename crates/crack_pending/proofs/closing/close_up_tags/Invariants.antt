use Rattle.std.proofs.Common.{◌≡◌}
use Rattle.crack_pending.proofs.Moves.{AreMoved}
use Rattle.crack_pending.proofs.closing.close_up_tags.Given as goal

abbrev pub invariant-spots : goal.invariant-spots
invariant-spots l = record {
  handles : AreMoved l.stands l.initial.tags.handles l.tags.handles l.spot l.low;
  remembered : AreMoved l.stands l.initial.tags.remembered l.tags.remembered l.spot l.low;
  capacity : l.tags.capacity ≡ l.initial.tags.capacity;
}
