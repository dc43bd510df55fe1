use Rattle.std.proofs.Common.{refl, None, Some, reverse}
use Rattle.crack_index.specs.Trees.{marks_in_tree}
use Rattle.crack_index.specs.Steps.{StepsDown}
use Rattle.crack_index.specs.Walks.{Descends}
use Rattle.crack_index.proofs.WalkLemmas.{Walked, Walked-some, length-down, Rising-down}
use Rattle.crack_index.proofs.WholeWalks.{descends, descended_there}
use Rattle.std.specs.Box.{with_value}
use Rattle.crack_index.proofs.walk.descend.Goals as goal
use Rattle.crack_index.proofs.walk.descend.Goals.{After-lower_along}

walked : (g : _) (c : After-lower_along g) → Walked (StepsDown g.V.Visitor.visits c.args.number) reverse c.args.link.now (Some (with_value c.in-Some.node c.lower_along.new.node)) (record { last = 0; ended = None }) c.lower_along.new.way c.args.visitor.now c.lower_along.new.visitor
walked g c = Walked-some (StepsDown g.V.Visitor.visits c.args.number) reverse c.args.link.now c.in-Some.node c.deref_mut.result.now c.lower_along.new.node (record { last = 0; ended = None }) c.lower_along.new.way c.args.visitor.now c.lower_along.new.visitor c.in-Some.is c.deref_mut.ensures.value c.lower_along.ensures.goes c.lower_along.ensures.height

pub returns-in-Some-clause-descends : goal.returns-in-Some-clause-descends
returns-in-Some-clause-descends g c = descends g.V.Visitor.visits c.args.number (marks_in_tree c.args.link.now) c.lower_along.new.node.marks _ c.lower_along.new.way c.args.visitor.now c.lower_along.new.visitor c.requires.rising refl refl (walked g (goal.at.returns-in-Some-clause-descends g c).After-lower_along).goes

pub returns-in-Some-clause-there : goal.returns-in-Some-clause-there
returns-in-Some-clause-there g c =
    descended_there g.V.Visitor.visits c.args.number (marks_in_tree c.args.link.now) c.args.visitor.now c.lower_along.new.way.ended c.lower_along.new.node.marks c.lower_along.new.visitor c.requires.rising
    (descends g.V.Visitor.visits c.args.number (marks_in_tree c.args.link.now) c.lower_along.new.node.marks _ c.lower_along.new.way c.args.visitor.now c.lower_along.new.visitor c.requires.rising refl refl (walked g (goal.at.returns-in-Some-clause-there g c).After-lower_along).goes)

pub returns-in-Some-clause-rising : goal.returns-in-Some-clause-rising
returns-in-Some-clause-rising g c = Rising-down g.V.Visitor.visits c.args.number (marks_in_tree c.args.link.now) c.lower_along.new.node.marks _ c.lower_along.new.way c.args.visitor.now c.lower_along.new.visitor (walked g (goal.at.returns-in-Some-clause-rising g c).After-lower_along).goes c.requires.rising

pub returns-in-Some-clause-long : goal.returns-in-Some-clause-long
returns-in-Some-clause-long g c = length-down g.V.Visitor.visits c.args.number (marks_in_tree c.args.link.now) c.lower_along.new.node.marks _ c.lower_along.new.way c.args.visitor.now c.lower_along.new.visitor (walked g (goal.at.returns-in-Some-clause-long g c).After-lower_along).goes

pub returns-in_default-clause-descends : goal.returns-in_default-clause-descends
returns-in_default-clause-descends g c = rw c.in_default.is (Descends.ends (marks_in_tree None) c.args.visitor.now)
