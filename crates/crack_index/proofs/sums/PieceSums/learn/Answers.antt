use Rattle.std.proofs.Common.{◌≡◌, arith, rules}
use Rattle.std.specs.Int.{w128}
use Rattle.std.proofs.lemmas.Int.{to_z-of_z}
use Rattle.crack_index.specs.Sums.{Extends}
use Rattle.crack_index.specs.Cuts.{given}
use Rattle.crack_index.proofs.Cutting.{Extends-chain, Extends-given}
use Rattle.crack_index.proofs.sums.PieceSums.learn.Goals as goal
use Rattle.crack_index.proofs.sums.PieceSums.learn.Goals.{After-give}

learned : (g : _) (c : After-give g) → Extends (g.S.SumSource.says c.args.source.now) c.args.self.now c.give.new.self
learned g c =
    let sum = to_z-of_z w128 c.asked-sum.result (search rules) in
    let given_is : c.give.new.self ≡ given c.in-Unknown.start c.asked-sum.result c.pieces.self = rw sum at c.give.ensures.value in
    let said = rw c.next_at.ensures.value at c.asked-sum.ensures in
    let inside = c.in-Unknown.ensures.0 in
    rw given_is (Extends-chain (g.S.SumSource.says c.args.source.now) c.args.self.now c.pieces.self (given c.in-Unknown.start c.asked-sum.result c.pieces.self) c.pieces.invariant.2
    (Extends-given (g.S.SumSource.says c.args.source.now) c.in-Unknown.start c.asked-sum.result c.pieces.self c.next_at.ensures.rises (omega (arith, c.ranges.last.fits, inside.1)) said))

pub returns-then-start-last : goal.returns-then-start-last
returns-then-start-last g c = learned g (goal.at.returns-then-start-last g c).After-give

pub pieces-preserved : goal.pieces-preserved
pieces-preserved g c =
    let inside = c.in-Unknown.ensures.0 in
    (omega (arith, c.pieces.invariant.0, inside.0), omega (arith, inside.1, c.if-start-last.false), learned g (goal.at.pieces-preserved g c).After-give)
