use Rattle.std.proofs.Common.{◌≡◌, ◌+◌, ◌-◌}
use Rattle.smallvec.specs.SmallVec.{HasRoomFor}
use Rattle.crack_core.proofs.RouteLaws.{parts_below}
use Rattle.crack_core.proofs.routes.push_parts.Given as goal

abbrev pub invariant-loop-part : goal.invariant-loop-part
invariant-loop-part l = (l.parts.items ≡ parts_below l.splits l.range l.part) × HasRoomFor l.parts (l.last + 1 - l.part)
