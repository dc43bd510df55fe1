use Rattle.std.proofs.Common.{◌≡◌, map, take}
use Rattle.crack_table.specs.Audits.{histories_of}
use Rattle.crack_table.proofs.auditing.lists_in.Given as goal

abbrev pub invariant-parts : goal.invariant-parts
invariant-parts g l = map (λ l. l.now) l.lists.items ≡ histories_of g.J.Naming.owner (take l.part-index l.parts.items)
