use Rattle.std.specs.Prelude.{All}
use Rattle.std.proofs.lemmas.List.Elements.{All-map}
use Rattle.crack_plain.specs.Plain.{PlainView, IsNumbered}
use Rattle.crack_part.specs.Parts.{Part, IsSound, table_of}
use Rattle.crack_core.proofs.cores.Core.splits.Goals as goal

pub returns-clause-numbered : goal.returns-clause-numbered
returns-clause-numbered c =
    let parts = c.args.self.now.parts in
    let sound : All IsSound parts = rw (← c.self.view_is) c.self.invariant.parts.sound in
    All-map (λ (t : PlainView). IsNumbered t.state) (λ (p : Part). table_of p) parts (λ k d k_lt. (sound k d k_lt).numbered)
