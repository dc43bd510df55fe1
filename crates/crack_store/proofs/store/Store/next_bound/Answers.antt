use Rattle.std.proofs.Common.{[], arith, ◌≤◌, ◌∙◌}
use Rattle.crack_store.specs.Inside.{lists_of}
use Rattle.crack_store.proofs.CrackLemmas.{none_above}
use Rattle.crack_store.proofs.store.Store.next_bound.Goals as goal

pub returns-in_default : goal.returns-in_default
returns-in_default c =
    let past : c.self.inside.inside.keys.high ≤ c.args.bound.0 = omega (arith, c.in_default.ensures, c.high.ensures.bounded) in
    rw (← c.self.view_is) (c.high.ensures.value ∙ none_above (lists_of c.self.inside.inside) [] c.args.bound.0 c.self.invariant.intact past)
