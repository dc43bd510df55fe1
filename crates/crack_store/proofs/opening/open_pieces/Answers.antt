use Rattle.std.proofs.Common.{ℕ, ◌-◌, length, refl, ap}
use Rattle.crack_store.specs.declared.opening.Opening.{Opening}
use Rattle.crack_store.proofs.OpeningLemmas.{opened_pieces}
use Rattle.crack_store.proofs.opening.open_pieces.Goals as goal

pub returns : goal.returns
returns c =
    let p = c.args.inside.now in
    let xs = c.args.arrivals.now in
    let to = c.len-to.result in
    let v : Opening = record { column = c.take.result; arrivals = _; end = to - length xs; to = to; moved = p.tally.moved } in
    let w = c.raise_each.new.visitor in
    let raised = c.raise_each.ensures in
    let puts = c.put_arrivals.ensures in
    opened_pieces p c.raise_each.new.self xs v w c.put_arrivals.new.column c.raise_each.result c.requires c.take.ensures refl c.len-to.ensures.value (ap (λ (n : ℕ). n - length xs) c.len-to.ensures.value) refl raised.raises raised.rising raised.ready.small raised.ready.order raised.ready.few puts.handles puts.keeps
