use Rattle.std.proofs.Common.{[], map, take}
use Rattle.crack_table.specs.Coverage.{IsCoverage}
use Rattle.crack_table.proofs.covering.blank_states.Given as goal

abbrev pub invariant-parts : goal.invariant-parts
invariant-parts l = IsCoverage (map (λ l. l.now) (take l.list-index l.lists)) l.states.items []
