use Rattle.std.proofs.Common.{◌≡◌, ◌+◌, None, sym, ◌∙◌, arith}
use Rattle.crack_row.specs.declared.TheConstants.{GREATEST_BOUND}
use Rattle.crack_index.specs.declared.sums.TheConstants.{UNKNOWN}
use Rattle.crack_index.specs.Cuts.{sum_piece_at, put}
use Rattle.crack_index.proofs.Pieces.{IsEnd-new, IsEnd-given, piece-is, end-past}
use Rattle.crack_index.proofs.Cutting.{by_bool, piece-own, end-apart, end-has, Extends-same, Extends-begin, Extends-blind}
use Rattle.crack_index.proofs.sums.PieceSums.cut_high.Goals as goal

pub returns-then-last-eq-GREATEST_KEY-clause-cut : goal.returns-then-last-eq-GREATEST_KEY-clause-cut
returns-then-last-eq-GREATEST_KEY-clause-cut g c = λ done.
    let past : c.args.last + 1 ≡ GREATEST_BOUND = omega (arith, c.if-last-eq-GREATEST_KEY.true) in
    rw past (end-past c.args.self.now)

pub returns-in_default-clause-more : goal.returns-in_default-clause-more
returns-in_default-clause-more g c =
    let es = c.args.self.now in
    let none : sum_piece_at (c.args.last + 1) es ≡ None = sym c.piece_at.ensures.value ∙ c.in_default.is in
    by_bool c.put.result _
    (λ done. rw (c.put.ensures.ok done) (Extends-begin (g.S.SumSource.says c.args.source.now) (c.args.last + 1) es c.piece_at.ensures.rises (omega (arith, c.ranges.last.fits, c.if-last-eq-GREATEST_KEY.false)) none))
    (λ short. rw (c.put.ensures.err short) (Extends-same (g.S.SumSource.says c.args.source.now) es))

pub returns-in_default-clause-cut : goal.returns-in_default-clause-cut
returns-in_default-clause-cut g c = λ done. rw (c.put.ensures.ok done) (IsEnd-new (c.args.last + 1) UNKNOWN c.args.self.now)

pub returns-in_default-clause-same : goal.returns-in_default-clause-same
returns-in_default-clause-same g c = λ is. absurd (end-has (c.args.last + 1) c.args.self.now c.piece_at.ensures.rises (omega (arith, c.ranges.last.fits, c.if-last-eq-GREATEST_KEY.false)) (sym c.piece_at.ensures.value ∙ c.in_default.is) is)

pub returns-then-start-high-clause-cut : goal.returns-then-start-high-clause-cut
returns-then-start-high-clause-cut g c = λ done.
    let es = c.args.self.now in
    let found = sym c.piece_at.ensures.value ∙ c.in-Some.is in
    rw c.if-start-high.true at (piece-is (c.args.last + 1) es (c.in-Some.start, c.in-Some.sum) c.piece_at.ensures.rises (omega (arith, c.ranges.last.fits, c.if-last-eq-GREATEST_KEY.false)) found).listed

pub returns-then-sum-clause-more : goal.returns-then-sum-clause-more
returns-then-sum-clause-more g c =
    let es = c.args.self.now in
    let found = sym c.piece_at.ensures.value ∙ c.in-Some.is in
    by_bool c.split.result _
    (λ done. rw (c.split.ensures.ok done) (Extends-blind (g.S.SumSource.says c.args.source.now) (c.args.last + 1) (c.in-Some.start, c.in-Some.sum) es c.piece_at.ensures.rises (omega (arith, c.ranges.last.fits, c.if-last-eq-GREATEST_KEY.false)) found c.if-start-high.false))
    (λ short. rw (c.split.ensures.err short) (Extends-same (g.S.SumSource.says c.args.source.now) es))

pub returns-then-sum-clause-cut : goal.returns-then-sum-clause-cut
returns-then-sum-clause-cut g c = λ done.
    rw (c.split.ensures.ok done) (IsEnd-given (c.args.last + 1) c.in-Some.start UNKNOWN (put (c.args.last + 1) UNKNOWN c.args.self.now) (IsEnd-new (c.args.last + 1) UNKNOWN c.args.self.now))

pub returns-then-sum-clause-same : goal.returns-then-sum-clause-same
returns-then-sum-clause-same g c = λ is.
    let found = sym c.piece_at.ensures.value ∙ c.in-Some.is in
    absurd (c.if-start-high.false (piece-own (c.args.last + 1) c.args.self.now (c.in-Some.start, c.in-Some.sum) c.piece_at.ensures.rises (omega (arith, c.ranges.last.fits, c.if-last-eq-GREATEST_KEY.false)) found is))

pub returns-in_default-clause-done : goal.returns-in_default-clause-done
returns-in_default-clause-done g c = λ is. absurd (end-has (c.args.last + 1) c.args.self.now c.piece_at.ensures.rises (omega (arith, c.ranges.last.fits, c.if-last-eq-GREATEST_KEY.false)) (sym c.piece_at.ensures.value ∙ c.in_default.is) is)

pub returns-then-sum-clause-done : goal.returns-then-sum-clause-done
returns-then-sum-clause-done g c = λ is.
    let found = sym c.piece_at.ensures.value ∙ c.in-Some.is in
    absurd (c.if-start-high.false (piece-own (c.args.last + 1) c.args.self.now (c.in-Some.start, c.in-Some.sum) c.piece_at.ensures.rises (omega (arith, c.ranges.last.fits, c.if-last-eq-GREATEST_KEY.false)) found is))

pub put-requires : goal.put-requires
put-requires g c = end-has (c.args.last + 1) c.args.self.now c.piece_at.ensures.rises (omega (arith, c.ranges.last.fits, c.if-last-eq-GREATEST_KEY.false)) (sym c.piece_at.ensures.value ∙ c.in_default.is)

pub split-requires : goal.split-requires
split-requires g c = λ is. c.if-start-high.false (piece-own (c.args.last + 1) c.args.self.now (c.in-Some.start, c.in-Some.sum) c.piece_at.ensures.rises (omega (arith, c.ranges.last.fits, c.if-last-eq-GREATEST_KEY.false)) (sym c.piece_at.ensures.value ∙ c.in-Some.is) is)

pub split_above-requires-clause-apart : goal.split_above-requires-clause-apart
split_above-requires-clause-apart g c = end-apart (c.args.last + 1) c.args.self.now (c.in-Some.start, c.in-Some.sum) c.piece_at.ensures.rises (omega (arith, c.ranges.last.fits, c.if-last-eq-GREATEST_KEY.false)) (sym c.piece_at.ensures.value ∙ c.in-Some.is) c.if-start-high.false

pub returns-then-prefers_rest-clause-same : goal.returns-then-prefers_rest-clause-same
returns-then-prefers_rest-clause-same g c = λ is. absurd (end-apart (c.args.last + 1) c.args.self.now (c.in-Some.start, c.in-Some.sum) c.piece_at.ensures.rises (omega (arith, c.ranges.last.fits, c.if-last-eq-GREATEST_KEY.false)) (sym c.piece_at.ensures.value ∙ c.in-Some.is) c.if-start-high.false is)

pub returns-then-prefers_rest-clause-done : goal.returns-then-prefers_rest-clause-done
returns-then-prefers_rest-clause-done g c = λ is. absurd (end-apart (c.args.last + 1) c.args.self.now (c.in-Some.start, c.in-Some.sum) c.piece_at.ensures.rises (omega (arith, c.ranges.last.fits, c.if-last-eq-GREATEST_KEY.false)) (sym c.piece_at.ensures.value ∙ c.in-Some.is) c.if-start-high.false is)

pub split_below-requires-clause-apart : goal.split_below-requires-clause-apart
split_below-requires-clause-apart g c = end-apart (c.args.last + 1) c.args.self.now (c.in-Some.start, c.in-Some.sum) c.piece_at.ensures.rises (omega (arith, c.ranges.last.fits, c.if-last-eq-GREATEST_KEY.false)) (sym c.piece_at.ensures.value ∙ c.in-Some.is) c.if-start-high.false

pub returns-clause-same : goal.returns-clause-same
returns-clause-same g c = λ is. absurd (end-apart (c.args.last + 1) c.args.self.now (c.in-Some.start, c.in-Some.sum) c.piece_at.ensures.rises (omega (arith, c.ranges.last.fits, c.if-last-eq-GREATEST_KEY.false)) (sym c.piece_at.ensures.value ∙ c.in-Some.is) c.if-start-high.false is)

pub returns-clause-done : goal.returns-clause-done
returns-clause-done g c = λ is. absurd (end-apart (c.args.last + 1) c.args.self.now (c.in-Some.start, c.in-Some.sum) c.piece_at.ensures.rises (omega (arith, c.ranges.last.fits, c.if-last-eq-GREATEST_KEY.false)) (sym c.piece_at.ensures.value ∙ c.in-Some.is) c.if-start-high.false is)
