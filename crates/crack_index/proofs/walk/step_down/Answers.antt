use Rattle.std.proofs.Common.{arith}
use Rattle.crack_index.specs.Steps.{StepsDown}
use Rattle.crack_index.proofs.walk.step_down.Goals as goal

pub returns-then-position-eq0-clause-steps : goal.returns-then-position-eq0-clause-steps
returns-then-position-eq0-clause-steps g c = λ number below. StepsDown.front c.args.mark.now c.args.way.now c.args.visitor.now below c.requires.going c.if-position-eq0.true

pub returns-then-position-way-clause-steps : goal.returns-then-position-way-clause-steps
returns-then-position-way-clause-steps g c = λ number below. StepsDown.along c.args.mark.now c.args.way.now c.args.visitor.now below c.requires.going (omega (arith, c.if-position-eq0.false)) c.if-position-way.true

pub returns-then-visit-clause-steps : goal.returns-then-visit-clause-steps
returns-then-visit-clause-steps g c = λ number below. StepsDown.goes_on c.args.mark.now c.args.way.now c.args.visitor.now c.visit.new.self below c.requires.going (omega (arith, c.if-position-eq0.false)) c.if-position-way.false c.if-visit.ensures.visits

pub returns-else-visit-clause-steps : goal.returns-else-visit-clause-steps
returns-else-visit-clause-steps g c = λ number below. StepsDown.stops c.args.mark.now c.args.way.now c.args.visitor.now c.visit.new.self below c.requires.going (omega (arith, c.if-position-eq0.false)) c.if-position-way.false c.if-visit.ensures.visits
