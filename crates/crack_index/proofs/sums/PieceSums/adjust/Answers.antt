use Rattle.std.proofs.Common.{◌≡◌, Some, None, sym, ◌∙◌, ap, arith, rules}
use Rattle.std.specs.Int.{w128}
use Rattle.std.specs.Map.{keys_of}
use Rattle.std.proofs.lemmas.Int.{to_z-of_z}
use Rattle.crack_index.specs.Sums.{adjusted}
use Rattle.crack_index.specs.Cuts.{sum_piece_at}
use Rattle.crack_index.proofs.Changed.{adjusted-none, adjusted-piece, keys-adjusted, AreRight-adjusted}
use Rattle.crack_index.proofs.sums.PieceSums.adjust.Goals as goal
use Rattle.crack_index.proofs.sums.PieceSums.adjust.Goals.{In_default, After-give}

unchanged : (c : In_default) → adjusted c.args.key.0 c.args.change c.args.self.now ≡ c.args.self.now
unchanged c =
    let none : sum_piece_at c.args.key.0 c.args.self.now ≡ None = rw c.number.ensures at (sym c.piece_at.ensures.value ∙ c.in_default.is) in
    adjusted-none c.args.key.0 c.args.change c.args.self.now none

pub returns-in_default-clause-value : goal.returns-in_default-clause-value
returns-in_default-clause-value c = sym (unchanged c)

pub returns-in_default-clause-right : goal.returns-in_default-clause-right
returns-in_default-clause-right c = λ m m' changes right. rw (unchanged c) at (AreRight-adjusted c.args.key.0 c.args.change m m' changes c.args.self.now c.piece_at.ensures.rises right)

changed : (c : After-give) → c.give.new.self ≡ adjusted c.args.key.0 c.args.change c.args.self.now
changed c =
    let found : sum_piece_at c.args.key.0 c.args.self.now ≡ Some (c.in-Some.start, c.in-Some.sum) = rw c.number.ensures at (sym c.piece_at.ensures.value ∙ c.in-Some.is) in
    let sum = to_z-of_z w128 c.in-Some.sum (search rules) in
    let change = to_z-of_z w128 c.args.change (search rules) in
    let after = to_z-of_z w128 c.later.result (search rules) in
    let is = rw (after, c.later.ensures, sum, change) at c.give.ensures.value in
    is ∙ adjusted-piece c.args.key.0 c.args.change c.args.self.now (c.in-Some.start, c.in-Some.sum) c.piece_at.ensures.rises (omega (arith, c.number.ensures, c.number.type_inv)) found

pub returns-clause-value : goal.returns-clause-value
returns-clause-value c = changed c

pub returns-clause-keys : goal.returns-clause-keys
returns-clause-keys c = ap keys_of (changed c) ∙ keys-adjusted c.args.key.0 c.args.change c.args.self.now

pub returns-clause-right : goal.returns-clause-right
returns-clause-right c = λ m m' changes right. rw (changed c) (AreRight-adjusted c.args.key.0 c.args.change m m' changes c.args.self.now c.piece_at.ensures.rises right)
