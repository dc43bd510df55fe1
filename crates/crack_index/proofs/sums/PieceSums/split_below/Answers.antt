use Rattle.std.proofs.Common.{◌≢◌, ◌<◌, subst, arith, rules}
use Rattle.std.specs.Int.{w128}
use Rattle.std.proofs.lemmas.Int.{to_z-of_z}
use Rattle.crack_row.specs.declared.TheConstants.{GREATEST_BOUND}
use Rattle.crack_index.specs.Sums.{IsEnd}
use Rattle.crack_index.specs.Cuts.{IsRest, put}
use Rattle.crack_index.proofs.Pieces.{piece-is, IsEnd-new, IsEnd-given}
use Rattle.crack_index.proofs.Cutting.{by_bool, Extends-same, Extends-lower}
use Rattle.crack_index.proofs.sums.PieceSums.split_below.Goals as goal

pub returns-clause-more : goal.returns-clause-more
returns-clause-more g c =
    let es = c.args.self.now in
    let says = g.S.SumSource.says c.args.source.now in
    let rises = c.split.ensures.rises in
    let few : c.args.at < GREATEST_BOUND = omega (arith, c.ranges.at.fits) in
    let piece = piece-is c.args.at es (c.args.start, c.args.sum) rises few c.requires.found in
    let apart : c.args.start ≢ c.args.at = λ same. c.requires.apart (subst (λ n. IsEnd n es) same piece.listed) in
    let sum = to_z-of_z w128 c.args.sum (search rules) in
    let asked = to_z-of_z w128 c.asked-lower.result (search rules) in
    let other = to_z-of_z w128 c.rest.result (search rules) in
    let rest : IsRest c.args.sum c.asked-lower.result c.rest.result = rw (sum, asked) at c.rest.ensures in
    by_bool c.split.result _
    (λ done. rw (c.split.ensures.ok done, asked, other) (Extends-lower says c.args.at (c.args.start, c.args.sum) c.asked-lower.result c.rest.result es rises few c.requires.found apart c.asked-lower.ensures rest))
    (λ short. rw (c.split.ensures.err short) (Extends-same says es))

pub returns-clause-cut : goal.returns-clause-cut
returns-clause-cut g c = λ done.
    let asked = to_z-of_z w128 c.asked-lower.result (search rules) in
    let other = to_z-of_z w128 c.rest.result (search rules) in
    rw (c.split.ensures.ok done, asked, other) (IsEnd-given c.args.at c.args.start c.asked-lower.result (put c.args.at c.rest.result c.args.self.now) (IsEnd-new c.args.at c.rest.result c.args.self.now))
