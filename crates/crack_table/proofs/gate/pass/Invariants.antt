use Rattle.std.proofs.Common.{ℕ, ◌<◌}
use Rattle.crack_table.proofs.gate.pass.Given as goal

abbrev pub invariant-turns : goal.invariant-turns
invariant-turns g l = (turn : ℕ) → turn < l.turn → g.G.Gate.may_refuse l.gate l.part turn
