use Rattle.std.proofs.Common.{◌<◌, ◌^◌, ◌-◌}
use Rattle.std.proofs.lemmas.List.Elements.{All-contains}
use Rattle.crack_index.specs.declared.mark.Mark.{Mark}
use Rattle.crack_store.proofs.steps.raise_next.Goals as goal

pub raise_past-requires-clause-small : goal.raise_past-requires-clause-small
raise_past-requires-clause-small c = All-contains (λ (m : Mark). m.position < 2 ^ 64 - 1) c.args.index.now.marks c.in-Some.mark c.requires.small (rw c.in-Some.is at c.requires.there)
