use Rattle.std.proofs.Common.{◌≡◌, ◌∷◌, [], sym, ◌∙◌}
use Rattle.crack_store.specs.Inside.{lists_of}
use Rattle.crack_store.specs.Hand.{hand_of}
use Rattle.crack_store.proofs.HandLemmas.{same_handles, once_first}
use Rattle.crack_store.proofs.carrying.Carrying.noted.Goals as goal

pub returns-then-eq : goal.returns-then-eq
returns-then-eq c =
    let s = lists_of c.self.inside.inside in
    let same : c.at.result ≡ c.args.handle = same_handles c.at.result c.args.handle (sym c.eq.ensures ∙ c.if-eq.true) in
    rw (← c.self.view_is) (once_first s (hand_of c.self.inside.inside ∷ []) c.args.handle c.get-place.result c.self.invariant.has.kept.intact (rw same at c.at.ensures))
