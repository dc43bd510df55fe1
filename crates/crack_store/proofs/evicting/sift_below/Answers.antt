use Rattle.std.proofs.Common.{◌≡◌, ◌+◌, ◌∷◌, ◌++◌, suc, List, take, drop, refl, ap, ◌∙◌}
use Rattle.crack_index.specs.declared.mark.Mark.{Mark}
use Rattle.crack_store.specs.declared.evicting.CeilingSieve.{CeilingSieve}
use Rattle.crack_store.specs.declared.evicting.CeilingStop.{CeilingStop}
use Rattle.crack_store.proofs.EvictLemmas.{around, down, up}
use Rattle.crack_store.proofs.evicting.sift_below.Goals as goal

pub returns-clause-sifts : goal.returns-clause-sifts
returns-clause-sifts c =
    let edge = c.args.edge in
    let count = c.args.count in
    let marks : List Mark = c.args.index.now.marks in
    let there = c.requires.there in
    let low : List Mark = take there.0 marks in
    let high : List Mark = drop (suc there.0) marks in
    let is : marks ≡ low ++ edge ∷ high = around marks there.0 edge there.1 ∙ ap (λ m. low ++ m ∷ high) there.2 in
    let ceiling = c.number-ceiling.ensures in
    let v : CeilingSieve = record { sieve = c.args.sieve; ceiling = c.number-ceiling.result; count = count } in
    let stop : CeilingStop = record { ceiling = c.number-ceiling.result; count = count; least = edge.position + count } in
    let one = down edge count c.raise_each.result low high c.raise_each.new.self.marks v c.raise_each.new.visitor refl ceiling c.requires.some (rw is at c.requires.rising) (rw is at c.raise_each.ensures.raises) in
    let after = up edge count c.place_each.result one.low' high c.place_each.new.self.marks stop c.place_each.new.visitor refl ceiling refl (rw one.after at c.raise_each.ensures.rising) (rw one.after at c.place_each.ensures.places) in
    record {
      low = low;
      low' = one.low';
      high = high;
      last = c.raise_each.result;
      before = is;
      after = after;
      raises = one.raises;
    }
