use Rattle.std.proofs.Common.{subst}
use Rattle.crack_witness.specs.Witnesses.{OpenedState, AreDistinct}
use Rattle.crack_witness.proofs.Opens.{names_apart}
use Rattle.crack_witness.proofs.opening.Opened.named.Goals as goal

pub returns-clause-apart : goal.returns-clause-apart
returns-clause-apart g c = names_apart g.J.Naming.book g.J.Naming.owner c.args.self c.requires (subst (λ (o : OpenedState). AreDistinct o.ids) c.self.view_is c.self.invariant.2)
