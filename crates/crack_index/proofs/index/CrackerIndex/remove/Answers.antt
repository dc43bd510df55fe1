use Rattle.std.proofs.Common.{◌≡◌, ◌+◌, ◌-◌, arith}
use Rattle.std.specs.Prelude.{vec_len}
use Rattle.crack_index.specs.Marks.{HasBound, removed}
use Rattle.crack_index.specs.Trees.{marks_in_tree}
use Rattle.crack_index.proofs.RemoveLaws.{SomeMarks-Rising, SomeMarks-removed, length-removed}
use Rattle.crack_index.proofs.Sides.{IsKept-removed}
use Rattle.crack_index.proofs.index.CrackerIndex.remove.Goals as goal

pub invariant_of-self : goal.invariant_of-self
invariant_of-self c =
    let marks = marks_in_tree c.self.inside.root in
    let there : HasBound marks c.args.bound.0 = rw (← c.self.view_is) at c.requires in
    let is : marks_in_tree c.remove.result ≡ removed c.args.bound.0 marks = rw (c.take-root.ensures.value, c.number.ensures) at c.remove.ensures.marks in
    let one : (c.self.inside.len - 1) + 1 ≡ c.self.inside.len = omega (arith, length-removed c.args.bound.0 marks there, c.self.invariant.counted) in
    IsKept-removed c.args.bound.0 marks (marks_in_tree c.remove.result) (vec_len c.self.inside.spare) c.self.inside.len (c.self.inside.len - 1) is there one c.self.invariant

pub returns-clause-rising : goal.returns-clause-rising
returns-clause-rising c =
    let marks = marks_in_tree c.self.inside.root in
    let is : marks_in_tree c.remove.result ≡ removed c.args.bound.0 marks = rw (c.take-root.ensures.value, c.number.ensures) at c.remove.ensures.marks in
    rw is (SomeMarks-Rising (removed c.args.bound.0 marks) marks (SomeMarks-removed c.args.bound.0 marks) c.self.invariant.rising)
