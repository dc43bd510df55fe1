use Rattle.std.proofs.Common.{◌≡◌, sym, arith}
use Rattle.crack_index.specs.Marks.{lowered_at}
use Rattle.crack_index.specs.Trees.{marks_in_tree}
use Rattle.crack_index.proofs.MarkLaws.{Rising-lowered_at}
use Rattle.crack_index.proofs.Sides.{IsKept-moved, lowered_at-zero}
use Rattle.crack_index.proofs.index.CrackerIndex.lower_at.Goals as goal

pub invariant_of-self : goal.invariant_of-self
invariant_of-self c = IsKept-moved (lowered_at c.args.position) (marks_in_tree c.self.inside.root) (marks_in_tree c.lower_at.new.link) _ _ c.lower_at.ensures.marks (Rising-lowered_at c.args.position (marks_in_tree c.self.inside.root) c.self.invariant.rising) c.self.invariant

pub returns-then-position-gt0-clause-rising : goal.returns-then-position-gt0-clause-rising
returns-then-position-gt0-clause-rising c = rw c.lower_at.ensures.marks (Rising-lowered_at c.args.position (marks_in_tree c.self.inside.root) c.self.invariant.rising)

pub returns-else-position-gt0-clause-marks : goal.returns-else-position-gt0-clause-marks
returns-else-position-gt0-clause-marks c =
    let zero : c.args.position ≡ 0 = omega (arith, c.if-position-gt0.false) in
    rw zero (sym (lowered_at-zero c.args.self.now.marks))
