use Rattle.std.proofs.Common.{◌-◌, ◌≤◌}
use Rattle.crack_index.specs.Sums.{Extends}
use Rattle.crack_index.proofs.sums.PieceSums.learn.Given as goal

abbrev pub invariant-pieces : goal.invariant-pieces
invariant-pieces g l = (l.first ≤ l.from) × (l.from ≤ l.last) × Extends (g.S.SumSource.says l.source) l.fn.self l.self

abbrev pub decreases-pieces : goal.decreases-pieces
decreases-pieces g l = l.last - l.from
