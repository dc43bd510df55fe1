use Rattle.std.proofs.Common.{◌≡◌, ◌≤◌, ◌-◌, get_or, ap, arith}
use Rattle.std.proofs.lemmas.List.{get_or_default}
use Rattle.crack_store.specs.declared.opening.Arrival.{Arrival}
use Rattle.crack_store.proofs.opening.count_below.Goals as goal

pub returns-then-arrivals-next-clause-below : goal.returns-then-arrivals-next-clause-below
returns-then-arrivals-next-clause-below c = λ k d h.
    let xs = c.args.arrivals.now in
    let last = c.rows.next - 1 in
    let row = c.index-arrivals-next.result in
    let sorted : (get_or xs k d).key ≤ (get_or xs last d).key = c.requires.sorted k last d (omega (arith, h)) (omega (arith, c.rows.invariant.few, c.requires.within, h)) in
    let same : (get_or xs last d).key ≡ (get_or xs last row).key = ap (λ (a : Arrival). a.key) (get_or_default xs last d row (omega (arith, c.rows.invariant.few, c.requires.within, h))) in
    omega (arith, sorted, same, c.if-arrivals-next.true)
