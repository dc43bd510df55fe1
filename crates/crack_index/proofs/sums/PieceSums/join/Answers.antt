use Rattle.std.proofs.Common.{◌≡◌, ◌-◌, ◌<◌, Some, None, sym, ◌∙◌, arith, rules}
use Rattle.std.specs.Int.{w128}
use Rattle.std.proofs.lemmas.Int.{to_z-of_z}
use Rattle.crack_row.specs.declared.TheConstants.{GREATEST_BOUND}
use Rattle.crack_index.specs.Sums.{both, joined_below}
use Rattle.crack_index.specs.Cuts.{sum_piece_at, given, dropped}
use Rattle.crack_index.proofs.Pieces.{none_below, piece-is}
use Rattle.crack_index.proofs.Cutting.{piece-own, end-has}
use Rattle.crack_index.proofs.Joining.{joined-none, joined-first, joined-piece, AreRight-joined}
use Rattle.crack_index.proofs.sums.PieceSums.join.Goals as goal
use Rattle.crack_index.proofs.sums.PieceSums.join.Goals.{In_default, After-give}

pub drop_at-requires : goal.drop_at-requires
drop_at-requires c =
    let old = c.args.self.now in
    let few : c.number-key.result < GREATEST_BOUND = omega (arith, c.number-key.type_inv) in
    let found : sum_piece_at c.number-key.result old ≡ Some (c.in-Some.start, c.in-Some.upper) = sym c.piece_at.ensures.value ∙ c.in-Some.is in
    let start : c.in-Some.start ≡ c.number-key.result = search rules in
    rw start at (piece-is c.number-key.result old (c.in-Some.start, c.in-Some.upper) c.piece_at.ensures.rises few found).listed

pub returns-in_default-clause-value : goal.returns-in_default-clause-value
returns-in_default-clause-value c =
    let none : sum_piece_at c.number-key.result c.args.self.now ≡ None = sym c.piece_at.ensures.value ∙ c.in_default.is in
    rw (← c.number-key.ensures) (sym (joined-none c.number-key.result c.args.self.now (end-has c.number-key.result c.args.self.now c.piece_at.ensures.rises (omega (arith, c.number-key.type_inv)) none)))

pub returns-then-start-key-clause-value : goal.returns-then-start-key-clause-value
returns-then-start-key-clause-value c =
    let found = sym c.piece_at.ensures.value ∙ c.in-Some.is in
    rw (← c.number-key.ensures) (sym (joined-none c.number-key.result c.args.self.now (λ is. c.if-start-key.true (piece-own c.number-key.result c.args.self.now (c.in-Some.start, c.in-Some.upper) c.piece_at.ensures.rises (omega (arith, c.number-key.type_inv)) found is))))

pub returns-then-key-eq0-clause-value : goal.returns-then-key-eq0-clause-value
returns-then-key-eq0-clause-value c =
    rw (← c.number-key.ensures) (sym (joined-first c.number-key.result c.args.self.now c.piece_at.ensures.rises (omega (arith, c.if-key-eq0.true))))

pub returns-in_default-piece_at-clause-value : goal.returns-in_default-piece_at-clause-value
returns-in_default-piece_at-clause-value c =
    let none : sum_piece_at (c.number-key.result - 1) c.args.self.now ≡ None = sym c.piece_at-2.ensures.value ∙ c.in_default-piece_at.is in
    let below = none_below (c.number-key.result - 1) c.args.self.now c.piece_at.ensures.rises (omega (arith, c.number-key.type_inv)) none in
    rw (← c.number-key.ensures) (sym (joined-first c.number-key.result c.args.self.now c.piece_at.ensures.rises (omega (arith, below))))

changed : (c : After-give) → c.give.new.self ≡ joined_below c.args.key.0 c.args.self.now
changed c =
    let key = c.number-key.result in
    let start : c.in-Some.start ≡ key = search rules in
    let second : sum_piece_at key c.args.self.now ≡ Some (key, c.in-Some.upper) = rw start at (sym c.piece_at.ensures.value ∙ c.in-Some.is) in
    let first = sym c.piece_at-2.ensures.value ∙ c.in-Some-piece_at.is in
    let whole : c.whole.result ≡ both c.in-Some-piece_at.lower c.in-Some.upper = rw (to_z-of_z w128 c.in-Some-piece_at.lower (search rules), to_z-of_z w128 c.in-Some.upper (search rules)) at c.whole.ensures in
    let is : c.give.new.self ≡ given c.in-Some-piece_at.low (both c.in-Some-piece_at.lower c.in-Some.upper) (dropped key c.args.self.now) = rw (c.drop_at.ensures.value, to_z-of_z w128 c.whole.result (search rules), whole) at c.give.ensures.value in
    rw (← c.number-key.ensures) (is ∙ joined-piece (key - 1) key c.in-Some-piece_at.low c.in-Some-piece_at.lower c.in-Some.upper c.args.self.now c.piece_at.ensures.rises (omega (arith, c.number-key.type_inv)) (omega (arith, c.if-key-eq0.false)) first second)

pub returns-clause-value : goal.returns-clause-value
returns-clause-value c = changed c

pub returns-clause-right : goal.returns-clause-right
returns-clause-right c = λ m adds right. rw (changed c) (AreRight-joined m c.args.key.0 c.args.self.now adds c.piece_at.ensures.rises right)
