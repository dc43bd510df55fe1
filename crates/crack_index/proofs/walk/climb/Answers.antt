use Rattle.std.proofs.Common.{refl, None, Some, ◌-◌, ◌^◌}
use Rattle.crack_index.specs.Trees.{marks_in_tree}
use Rattle.crack_index.specs.Steps.{StepsUp}
use Rattle.crack_index.specs.Walks.{Climbs}
use Rattle.crack_index.proofs.WalkLemmas.{Walked, Walked-some, Goes-length, Rising-up, ahead}
use Rattle.crack_index.proofs.WholeWalks.{climbs, climbed_there}
use Rattle.std.specs.Box.{with_value}
use Rattle.crack_index.proofs.walk.climb.Goals as goal
use Rattle.crack_index.proofs.walk.climb.Goals.{After-raise_along}

walked : (g : _) (c : After-raise_along g) → Walked (StepsUp g.V.Visitor.visits c.args.number) ahead c.args.link.now (Some (with_value c.in-Some.node c.raise_along.new.node)) (record { last = 2 ^ 64 - 1; ended = None }) c.raise_along.new.way c.args.visitor.now c.raise_along.new.visitor
walked g c = Walked-some (StepsUp g.V.Visitor.visits c.args.number) ahead c.args.link.now c.in-Some.node c.deref_mut.result.now c.raise_along.new.node (record { last = 2 ^ 64 - 1; ended = None }) c.raise_along.new.way c.args.visitor.now c.raise_along.new.visitor c.in-Some.is c.deref_mut.ensures.value c.raise_along.ensures.goes c.raise_along.ensures.height

pub returns-in-Some-clause-climbs : goal.returns-in-Some-clause-climbs
returns-in-Some-clause-climbs g c = climbs g.V.Visitor.visits c.args.number (marks_in_tree c.args.link.now) c.raise_along.new.node.marks _ c.raise_along.new.way c.args.visitor.now c.raise_along.new.visitor c.requires.rising refl c.requires.small (walked g (goal.at.returns-in-Some-clause-climbs g c).After-raise_along).goes

pub returns-in-Some-clause-there : goal.returns-in-Some-clause-there
returns-in-Some-clause-there g c =
    climbed_there g.V.Visitor.visits c.args.number (marks_in_tree c.args.link.now) c.args.visitor.now c.raise_along.new.way.ended c.raise_along.new.node.marks c.raise_along.new.visitor c.requires.rising
    (climbs g.V.Visitor.visits c.args.number (marks_in_tree c.args.link.now) c.raise_along.new.node.marks _ c.raise_along.new.way c.args.visitor.now c.raise_along.new.visitor c.requires.rising refl c.requires.small (walked g (goal.at.returns-in-Some-clause-there g c).After-raise_along).goes)

pub returns-in-Some-clause-rising : goal.returns-in-Some-clause-rising
returns-in-Some-clause-rising g c = Rising-up g.V.Visitor.visits c.args.number (marks_in_tree c.args.link.now) c.raise_along.new.node.marks _ c.raise_along.new.way c.args.visitor.now c.raise_along.new.visitor (walked g (goal.at.returns-in-Some-clause-rising g c).After-raise_along).goes c.requires.rising

pub returns-in-Some-clause-long : goal.returns-in-Some-clause-long
returns-in-Some-clause-long g c = Goes-length (StepsUp g.V.Visitor.visits c.args.number) (marks_in_tree c.args.link.now) c.raise_along.new.node.marks _ c.raise_along.new.way c.args.visitor.now c.raise_along.new.visitor (walked g (goal.at.returns-in-Some-clause-long g c).After-raise_along).goes

pub returns-in_default-clause-climbs : goal.returns-in_default-clause-climbs
returns-in_default-clause-climbs g c = rw c.in_default.is (Climbs.ends (marks_in_tree None) c.args.visitor.now)
