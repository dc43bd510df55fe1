use Rattle.std.proofs.Common.{◌≡◌, ◌+◌, ◌∙◌, refl, arith, rules}
use Rattle.std.specs.Int.{w128}
use Rattle.std.proofs.lemmas.Int.{to_z-of_z}
use Rattle.crack_index.specs.Sums.{Extends, IsEnd}
use Rattle.crack_index.proofs.Cutting.{Extends-chain, span-is}
use Rattle.crack_index.proofs.Totals.{whole-right, some-right, on_some}
use Rattle.crack_index.proofs.sums.PieceSums.sum.Goals as goal
use Rattle.crack_index.proofs.sums.PieceSums.sum.Goals.{After-cut_low, After-walk, After-learned, then-not-cut_low-via-then-not-cut_low, then-not-cut_low-via-else-not-cut_low+then-not-cut_high}

lower : (g : _) (c : After-cut_low g) → Extends (g.S.SumSource.says c.args.source.now) c.args.self.now c.cut_low.new.self
lower g c = c.cut_low.ensures.more

both : (g : _) (c : After-walk g) → Extends (g.S.SumSource.says c.args.source.now) c.args.self.now c.cut_high.new.self
both g c =
    Extends-chain (g.S.SumSource.says c.args.source.now) c.args.self.now c.cut_low.new.self c.cut_high.new.self c.cut_low.ensures.more c.cut_high.ensures.more

ends : (g : _) (c : After-walk g) → IsEnd c.number-first.result c.cut_high.new.self × IsEnd (c.number-last.result + 1) c.cut_high.new.self
ends g c = (c.cut_high.ensures.more.ends c.number-first.result (c.if-not-cut_low.ensures.cut refl), c.if-not-cut_high.ensures.cut refl)

range_ends : (g : _) (c : After-walk g) → IsEnd c.args.range.low c.cut_high.new.self × IsEnd c.args.range.high c.cut_high.new.self
range_ends g c =
    let low : c.number-first.result ≡ c.args.range.low = c.number-first.ensures ∙ c.in-Some.ensures.value.0 in
    let high : c.number-last.result + 1 ≡ c.args.range.high = rw c.number-last.ensures c.in-Some.ensures.value.1 in
    rw (low, high) at (ends g c)

learned_more : (g : _) (c : After-learned g) → Extends (g.S.SumSource.says c.args.source.now) c.cut_high.new.self c.learned.new.self
learned_more g c = c.learned.ensures.more

pub returns-then-not-cut_low-clause-more : goal.returns-then-not-cut_low-clause-more
returns-then-not-cut_low-clause-more g c =
    let at = goal.at.returns-then-not-cut_low-clause-more g c in
    elim c.then-not-cut_low.branch [
      | then-not-cut_low-via-then-not-cut_low w ↦ rw w.self-is (lower g at.After-cut_low)
      | then-not-cut_low-via-else-not-cut_low+then-not-cut_high w ↦
          rw w.self-is (Extends-chain (g.S.SumSource.says c.args.source.now) c.args.self.now c.cut_low.new.self w.cut_high.new.self (lower g at.After-cut_low) w.cut_high.ensures.more)
    ]

pub returns-in-Whole-clause-right : goal.returns-in-Whole-clause-right
returns-in-Whole-clause-right g c = λ m adds told right.
    let at = (goal.at.returns-in-Whole-clause-right g c).After-walk in
    let after = (both g at).right m adds told right in
    let known = rw (span-is c.number-first.result c.number-last.result c.in-Some.first.0 c.in-Some.last.0 c.args.range c.number-first.ensures c.number-last.ensures c.in-Some.ensures.value.0 c.in-Some.ensures.value.1) at c.in-Whole.ensures.1 in
    let total = rw (span-is c.number-first.result c.number-last.result c.in-Some.first.0 c.in-Some.last.0 c.args.range c.number-first.ensures c.number-last.ensures c.in-Some.ensures.value.0 c.in-Some.ensures.value.1) at c.in-Whole.ensures.0 in
    (rw (to_z-of_z w128 c.in-Whole.total (search rules)) (whole-right m c.args.range c.cut_high.new.self c.in-Whole.total adds c.in-Whole.ensures.2 (omega (arith, c.requires)) (range_ends g at) known after total), after)

pub returns-in-Whole-clause-ends : goal.returns-in-Whole-clause-ends
returns-in-Whole-clause-ends g c = range_ends g (goal.at.returns-in-Whole-clause-ends g c).After-walk

pub returns-in-Whole-clause-more : goal.returns-in-Whole-clause-more
returns-in-Whole-clause-more g c = both g (goal.at.returns-in-Whole-clause-more g c).After-walk

pub returns-in-Unknown-clause-right : goal.returns-in-Unknown-clause-right
returns-in-Unknown-clause-right g c = λ m adds told right.
    let at = goal.at.returns-in-Unknown-clause-right g c in
    let more = learned_more g at.After-learned in
    let first = range_ends g at.After-walk in
    let after = more.right m adds told ((both g at.After-walk).right m adds told right) in
    let known = rw (span-is c.number-first.result c.number-last.result c.in-Some.first.0 c.in-Some.last.0 c.args.range c.number-first.ensures c.number-last.ensures c.in-Some.ensures.value.0 c.in-Some.ensures.value.1) at c.learned.ensures.known in
    let total = rw (span-is c.number-first.result c.number-last.result c.in-Some.first.0 c.in-Some.last.0 c.args.range c.number-first.ensures c.number-last.ensures c.in-Some.ensures.value.0 c.in-Some.ensures.value.1) at c.learned.ensures.value in
    (some-right m c.args.range c.learned.new.self c.learned.result adds c.learned.ensures.rises (omega (arith, c.requires)) (more.ends c.args.range.low first.0, more.ends c.args.range.high first.1) known after total, after)

pub returns-in-Unknown-clause-ends : goal.returns-in-Unknown-clause-ends
returns-in-Unknown-clause-ends g c =
    let at = goal.at.returns-in-Unknown-clause-ends g c in
    let more = learned_more g at.After-learned in
    let first = range_ends g at.After-walk in
    on_some c.learned.result _ (more.ends c.args.range.low first.0, more.ends c.args.range.high first.1)

pub returns-in-Unknown-clause-more : goal.returns-in-Unknown-clause-more
returns-in-Unknown-clause-more g c =
    let at = goal.at.returns-in-Unknown-clause-more g c in
    Extends-chain (g.S.SumSource.says c.args.source.now) c.args.self.now c.cut_high.new.self c.learned.new.self (both g at.After-walk) (learned_more g at.After-learned)

pub returns-in-TooFar-clause-more : goal.returns-in-TooFar-clause-more
returns-in-TooFar-clause-more g c = both g (goal.at.returns-in-TooFar-clause-more g c).After-walk
