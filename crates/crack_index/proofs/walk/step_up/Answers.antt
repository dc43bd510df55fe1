use Rattle.crack_index.specs.Steps.{StepsUp}
use Rattle.crack_index.proofs.walk.step_up.Goals as goal

pub returns-then-position-way-clause-steps : goal.returns-then-position-way-clause-steps
returns-then-position-way-clause-steps g c = λ number above. StepsUp.along c.args.mark.now c.args.way.now c.args.visitor.now above c.requires.going c.if-position-way.true

pub returns-then-visit-clause-steps : goal.returns-then-visit-clause-steps
returns-then-visit-clause-steps g c = λ number above. StepsUp.goes_on c.args.mark.now c.args.way.now c.args.visitor.now c.visit.new.self above c.requires.going c.if-position-way.false c.if-visit.ensures.visits

pub returns-else-visit-clause-steps : goal.returns-else-visit-clause-steps
returns-else-visit-clause-steps g c = λ number above. StepsUp.stops c.args.mark.now c.args.way.now c.args.visitor.now c.visit.new.self above c.requires.going c.if-position-way.false c.if-visit.ensures.visits
