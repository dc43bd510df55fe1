use Rattle.std.proofs.Common.{◌∷◌, [], arith}
use Rattle.crack_index.proofs.RaiseLemmas.{Raises-none, Raises-one}
use Rattle.crack_index.proofs.raising.raise_mark.Goals as goal

pub returns-then-most-eq0-clause-raises : goal.returns-then-most-eq0-clause-raises
returns-then-most-eq0-clause-raises g c = rw c.if-most-eq0.true (Raises-none g.V.Raiser.rises (c.args.mark.now ∷ []) c.args.visitor.now)

pub returns-clause-raises : goal.returns-clause-raises
returns-clause-raises g c = rw c.min-rise.ensures (Raises-one g.V.Raiser.rises c.args.most c.rise.result c.args.mark.now c.args.visitor.now c.rise.new.self (omega (arith, c.if-most-eq0.false)) c.rise.ensures.rises)
