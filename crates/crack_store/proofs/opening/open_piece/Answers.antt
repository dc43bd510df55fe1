use Rattle.std.proofs.Common.{◌≡◌, ℕ, ◌-◌, ◌+◌, ◌<◌, ◌++◌, length, take, drop, refl, sym, ap, subst, ◌∙◌, arith}
use Rattle.std.specs.List.{All}
use Rattle.crack_store.specs.declared.opening.Arrival.{Arrival}
use Rattle.std.proofs.lemmas.List.{length-take-le}
use Rattle.crack_store.proofs.OpeningLemmas.{opened_for, KeepsPut-moved}
use Rattle.crack_store.proofs.opening.open_piece.Goals as goal

pub returns-clause-opens : goal.returns-clause-opens
returns-clause-opens c =
    let v = c.args.opening.now in
    let xs = v.arrivals.now in
    let next = c.count_below-next.result in
    let counted = c.count_below-next.ensures in
    let ready = c.requires.ready in
    let sides = c.exchange_sides-moved.ensures in
    let puts = c.put_arrivals.ensures in
    let one = opened_for xs c.args.from v.end v.to (v.to - (v.to - v.end - next)) next c.args.low v.column.handles c.exchange_sides-moved.new.column.handles c.put_arrivals.new.column.handles c.requires.order ready.order ready.within (omega (arith, ready.few)) counted.few refl counted.below counted.above sides.sides puts.handles in
    let left_long : length (take (v.to - v.end) xs) ≡ v.to - v.end = length-take-le (v.to - v.end) xs (omega (arith, ready.few)) in
    let behind : v.end + length (take (v.to - v.end) xs) ≡ v.to = omega (arith, left_long, ready.order) in
    let kept : next ≡ v.to - (v.to - v.end - next) - (v.end - c.args.from) - c.args.from = omega (arith, counted.few, ready.order, c.requires.order) in
    let next_long : length (take next xs) ≡ next = length-take-le next xs (omega (arith, counted.few, ready.few)) in
    let kept_long : next ≡ length (take (v.to - (v.to - v.end - next) - (v.end - c.args.from) - c.args.from) xs) = sym next_long ∙ ap (λ n. length (take n xs)) kept in
    record {
      hole = one.hole;
      piece = one.piece;
      come = take (v.to - v.end - next) (drop next xs);
      rows_are = one.rows_are ∙ ap (λ n. take c.args.from v.column.handles ++ (one.hole ++ (one.piece ++ drop n v.column.handles))) (sym behind);
      piece_is = one.piece_is;
      arrived = one.arrived ∙ ap (λ n. take n xs ++ take (v.to - v.end - next) (drop next xs)) kept;
      came = one.came;
      left = subst (λ (n : ℕ). All (λ (a : Arrival). a.key < c.args.low) (take n xs)) kept one.left;
      hole_is = one.hole_is ∙ kept_long;
      rise_is = kept_long;
      end_is = refl;
      few = omega (arith, sides.moved, c.saturating_add-opening.ensures, counted.few, ready.order);
      also = record {
        rows = KeepsPut-moved xs (v.to - v.end - next) next v.column c.exchange_sides-moved.new.column c.put_arrivals.new.column sides.keeps puts.keeps;
        arrivals = refl;
        moved = omega (arith, c.saturating_add-opening.ensures, ready.small);
      };
    }
